-- The first number out of its range: where there is none, and where it stands.
-- Assumes nothing.
use mathlib.Core.Path.{◌≡◌, refl, sym, ap, ◌∙◌}
use mathlib.Core.Bool.{Bool, true, false, ◌||◌, false≢true}
use mathlib.Core.List.{List, [], ◌∷◌, ◌++◌}
use Prim.Native.Nat.{ℕ, ◌≤◌}
use native.Mathlib.Omega.{arith}
use borrow.Author.Tests.{ltb-false, le-ltb}
use lib.Dec.{ltb}
use Rattle.std.specs.Prelude.{Some, None}
use Rattle.format_items.specs.Items.{value_of, Repeat, times}
use Rattle.format_items.specs.Ranges.{Ranged, ranged, outside, place, first_outside, repeat_numbers, Within, AllWithin}
use Rattle.format_items.specs.Promises.{FirstOutsideAt}

-- ---- one number

within_inside : (n : Ranged) → Within n → outside n ≡ false
within_inside (ranged n low high) h = rw (le-ltb (value_of n) low h.0, le-ltb high (value_of n) h.1)

inside_within : (n : Ranged) → outside n ≡ false → Within n
inside_within (ranged n low high) e = go (ltb (value_of n) low) (ltb high (value_of n)) refl refl e
  where
    go : (a b : Bool) → ltb (value_of n) low ≡ a → ltb high (value_of n) ≡ b → (a || b) ≡ false → (low ≤ value_of n) × (value_of n ≤ high)
    go true b f g k = absurd (false≢true (sym k))
    go false true f g k = absurd (false≢true (sym k))
    go false false f g k = (ltb-false (value_of n) low f, ltb-false high (value_of n) g)

outside_not : (n : Ranged) → outside n ≡ true → Within n → ⊥
outside_not n e h = false≢true (sym (within_inside n h) ∙ e)

not_outside : (n : Ranged) → (Within n → ⊥) → outside n ≡ true
not_outside n h = go (outside n) refl
  where
    go : (t : Bool) → outside n ≡ t → outside n ≡ true
    go true e = e
    go false e = absurd (h (inside_within n e))

-- ---- numbers in a row

module _ (n : Ranged) (ns : List Ranged) where
  first_here : outside n ≡ true → first_outside (n ∷ ns) ≡ Some (place n)
  unfolding first_outside
  first_here e = rw e

  first_later : outside n ≡ false → first_outside (n ∷ ns) ≡ first_outside ns
  unfolding first_outside
  first_later e = rw e

pub none_outside : (ns : List Ranged) → AllWithin ns → first_outside ns ≡ None
unfolding first_outside
none_outside [] h = refl
none_outside (n ∷ ns) h = first_later n ns (within_inside n h.0) ∙ none_outside ns h.1

pub all_within : (ns : List Ranged) → first_outside ns ≡ None → AllWithin ns
all_within [] e = tt
all_within (n ∷ ns) e = go (outside n) refl (all_within ns)
  where
    go : (t : Bool) → outside n ≡ t → (first_outside ns ≡ None → AllWithin ns) → AllWithin (n ∷ ns)
    go true f r = let k = first_here n ns f in let z : ◌≡◌ {A = ℕ} 0 1 = cc in absurd (omega arith)
    go false f r = (inside_within n f, r (sym (first_later n ns f) ∙ e))

pub at_first : (ns : List Ranged) (p : ℕ) → first_outside ns ≡ Some p → FirstOutsideAt ns p
unfolding first_outside
at_first [] p e = let z : ◌≡◌ {A = ℕ} 0 1 = cc in absurd (omega arith)
at_first (n ∷ ns) p e = go (outside n) refl (at_first ns p)
  where
    go : (t : Bool) → outside n ≡ t → (first_outside ns ≡ Some p → FirstOutsideAt ns p) → FirstOutsideAt (n ∷ ns) p
    go true f r =
        let k = first_here n ns f in
        let z : place n ≡ p = cc in
        record { before = []; n = n; after = ns; split = refl; before_within = tt; not_within = outside_not n f; stands = z }
    go false f r =
        let k = r (sym (first_later n ns f) ∙ e) in
        record { before = n ∷ k.before; n = k.n; after = k.after; split = ap (n ∷◌) k.split; before_within = (inside_within n f, k.before_within); not_within = k.not_within; stands = k.stands }

first_past : (before : List Ranged) (n : Ranged) (after : List Ranged) → AllWithin before → (Within n → ⊥) → first_outside (before ++ n ∷ after) ≡ Some (place n)
first_past [] n after h out = first_here n after (not_outside n out)
first_past (b ∷ before) n after h out = first_later b _ (within_inside b h.0) ∙ first_past before n after h.1 out

pub first_at : (ns : List Ranged) (p : ℕ) → FirstOutsideAt ns p → first_outside ns ≡ Some p
first_at ns p h = rw h.split (first_past h.before h.n h.after h.before_within h.not_within ∙ ap Some h.stands)

-- ---- parts of a list

pub within_left : (xs ys : List Ranged) → AllWithin (xs ++ ys) → AllWithin xs
within_left [] ys h = tt
within_left (x ∷ xs) ys h = (h.0, within_left xs ys h.1)

pub within_right : (xs ys : List Ranged) → AllWithin (xs ++ ys) → AllWithin ys
within_right [] ys h = h
within_right (x ∷ xs) ys h = within_right xs ys h.1

-- ---- repeats

pub times_some : (r : Repeat) → AllWithin (repeat_numbers r) → 1 ≤ times r
times_some Repeat.absent h = omega arith
times_some (Repeat.given n) h = h.0.0
