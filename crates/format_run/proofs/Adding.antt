-- The loop over the sizes of items.
-- Assumes nothing.
use Rattle.std.proofs.Common.{◌≡◌, sym, ap, ◌∙◌, List, ◌∷◌, ℕ, zero, suc, ◌+◌, ◌-◌, ◌*◌, ◌≤◌, arith, length, take, drop}
use native.Mathlib.Decide.{dec_le}
use native.Mathlib.Nat.{zero-mul, suc-mul}
use Rattle.format_items.specs.Items.{Items}
use Rattle.format_items.specs.Size.{size, largest_size}
use Rattle.format_words.specs.declared.packed.Packed.{Packed}
use Rattle.format_words.specs.declared.Entry.{Entry}
use Rattle.format_words.specs.declared.Entry.TheVariants as entry
use Rattle.format_words.specs.Held.{Holds, SomeItems}
use Rattle.format_run.specs.Sizes.{capped}
use Rattle.format_run.proofs.FirstLaws.{size_group, first_adds}
use Rattle.format_run.proofs.Views.{as_item, as_group, none_left}

-- ---- sizes as far as they matter

over : (r x y : ℕ) → largest_size + 1 ≤ x → capped (y + r * (largest_size + 1)) ≡ capped (y + r * x)
over zero x y h = omega (arith, zero-mul x)
over (suc k) x y h = omega (arith, suc-mul k x, suc-mul k (largest_size + 1))

capped_times : (r x y : ℕ) → capped (y + r * capped x) ≡ capped (y + r * x)
capped_times r x y = go (dec_le (largest_size + 1) x)
  where
    go : Dec (largest_size + 1 ≤ x) → capped (y + r * capped x) ≡ capped (y + r * x)
    go (yes h) = let e : capped x ≡ largest_size + 1 = omega arith in rw e (over r x y h)
    go (no h) = let e : capped x ≡ x = omega arith in rw e

-- ---- the loop: the items that `rest` holds are left, the others are in the total

pub record Left (t : List ℕ) (c l total : ℕ) (rest : List Entry) (xs : Items) : Type 0 where
  pub zs : Items
  pub holds : Holds t c l rest zs
  pub sum : capped (size xs) ≡ capped (total + size zs)

pub record Added (es : List Entry) (l total : ℕ) (rest : List Entry) : Type 0 where
  pub low : total ≤ largest_size + 1
  pub all : (t : List ℕ) (c : ℕ) (xs : Items) → Holds t c l es xs → Left t c l total rest xs

module _ {es : List Entry} {l total : ℕ} {rest : List Entry} (w : Added es l total rest) where
  pub held_left : SomeItems es l → SomeItems rest l
  held_left h =
      let g = w.all h.t h.c h.items h.holds in
      record { t = h.t; c = h.c; items = g.zs; holds = g.holds }

  pub added_all : length rest ≡ 0 → (t : List ℕ) (c : ℕ) (xs : Items) → Holds t c l es xs → total ≡ capped (size xs)
  unfolding size
  added_all e t c xs h =
      let g = w.all t c xs h in
      let z : size g.zs ≡ 0 = rw (none_left g.holds e) in
      omega (arith, w.low, g.sum)

  pub added_item : {word : Packed} {r : ℕ} {tail : List Entry} (sum : ℕ) → rest ≡ entry.Item r word ∷ tail → sum ≡ capped (total + r) → Added es l sum tail
  added_item {word} {r} {tail} sum e s = record { low = omega arith; all = λ t c xs h. step t c xs (w.all t c xs h) }
    where
      step : (t : List ℕ) (c : ℕ) (xs : Items) → Left t c l total rest xs → Left t c l sum tail xs
      step t c xs g =
          let v = as_item (rw e at g.holds) in
          record { zs = v.next; holds = v.rest; sum = omega (arith, g.sum, (first_adds v.first).size_is) }

  pub added_group : {n r : ℕ} {tail : List Entry} (inside sum : ℕ) → rest ≡ entry.Group n r ∷ tail
      → ((t : List ℕ) (c : ℕ) (ys : Items) → Holds t c (l - 1) (take n tail) ys → inside ≡ capped (size ys))
      → sum ≡ capped (total + r * inside) → Added es l sum (drop n tail)
  added_group {n} {r} {tail} inside sum e call s = record { low = omega arith; all = λ t c xs h. step t c xs (w.all t c xs h) }
    where
      step : (t : List ℕ) (c : ℕ) (xs : Items) → Left t c l total rest xs → Left t c l sum (drop n tail) xs
      step t c xs g =
          let v = as_group (rw e at g.holds) in
          let z : size g.zs ≡ r * size v.inside + size v.next = ap size v.is ∙ size_group v.r v.inside v.next ∙ ap (λ (q : ℕ). q * size v.inside + size v.next) (sym v.repeats) in
          let p : sum ≡ capped (total + r * size v.inside) = s ∙ rw (call t c v.inside v.one) (capped_times r (size v.inside) total) in
          record { zs = v.next; holds = v.two; sum = omega (arith, g.sum) }
