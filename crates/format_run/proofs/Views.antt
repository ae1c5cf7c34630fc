-- What the first of the entries that hold items says of them.
-- Assumes nothing.
use Rattle.std.proofs.Common.{◌≡◌, refl, sym, List, ◌∷◌, ℕ, ◌+◌, ◌-◌, ◌≤◌, arith, length, take, drop, length-append}
use lib.Seq.{take_at, drop_at}
use Rattle.format_items.specs.Items.{Repeat, times, Items}
use Rattle.format_words.specs.Words.{met_in, RunPacked}
use Rattle.format_words.specs.declared.packed.Packed.{Packed}
use Rattle.format_words.specs.declared.Entry.{Entry}
use Rattle.format_words.specs.declared.Entry.TheVariants as entry
use Rattle.format_words.specs.Held.{First, Holds, SomeItems}

-- an item that is no group
pub record Item (t : List ℕ) (c l : ℕ) (w : Packed) (r : ℕ) (es : List Entry) (xs : Items) : Type 0 where
  pub next : Items
  pub first : First xs r (met_in t w) next
  pub sound : RunPacked c w
  pub rest : Holds t c l es next

-- a group, which n entries hold
pub record Group (t : List ℕ) (c l n k : ℕ) (es : List Entry) (xs : Items) : Type 0 where
  pub r : Repeat
  pub inside : Items
  pub next : Items
  pub is : xs ≡ Items.group r inside next
  pub repeats : k ≡ times r
  pub deep : 1 ≤ l
  pub few : n ≤ length es
  pub one : Holds t c (l - 1) (take n es) inside
  pub two : Holds t c l (drop n es) next

module _ {t : List ℕ} {c : ℕ} where
  pub as_item : {l r : ℕ} {w : Packed} {es : List Entry} {xs : Items} → Holds t c l (entry.Item r w ∷ es) xs → Item t c l w r es xs
  as_item (Holds.item {next} f s h) = record { next = next; first = f; sound = s; rest = h }

  pub as_group : {l n k : ℕ} {es : List Entry} {xs : Items} → Holds t c l (entry.Group n k ∷ es) xs → Group t c l n k es xs
  as_group (Holds.group {l} {r} {one} {two} {inside} {next} n k e h g) =
      let a : l + 1 - 1 ≡ l = omega arith in
      record {
        r = r;
        inside = inside;
        next = next;
        is = refl;
        repeats = k;
        deep = omega arith;
        few = rw e (omega (arith, length-append one two));
        one = rw (a, e, take_at one two _ (sym n)) h;
        two = rw (e, drop_at one two _ (sym n)) g;
      }

  -- no items where no entry is left
  pub none_left : {l : ℕ} {es : List Entry} {xs : Items} → Holds t c l es xs → length es ≡ 0 → xs ≡ Items.none
  none_left Holds.none e = refl
  none_left (Holds.item f s h) e = absurd (omega arith)
  none_left (Holds.group n k r h g) e = absurd (omega arith)

-- the items of a group, where some items begin with it
pub inside_of : {l n k : ℕ} {es : List Entry} → SomeItems (entry.Group n k ∷ es) l → SomeItems (take n es) (l - 1)
inside_of h = let g = as_group h.holds in record { t = h.t; c = h.c; items = g.inside; holds = g.one }
