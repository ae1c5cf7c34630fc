-- The index to return to, as the loop over the items finds it.
-- Assumes nothing.
use mathlib.Core.Path.{◌≡◌, refl, ap, ◌∙◌}
use mathlib.Core.Bool.{Bool, true, false, cond}
use Prim.Native.Nat.{ℕ, ◌+◌, ◌-◌, ◌*◌, ◌≤◌}
use native.Mathlib.Omega.{arith}
use Rattle.format_items.specs.Items.{Repeat, times, Items}
use Rattle.format_items.specs.Size.{size}
use Rattle.format_items.specs.Met.{Met, has_group, from_last_group, return_part, return_index}
use Rattle.format_words.specs.Held.{First}
use Rattle.format_items.proofs.MetLaws.{met_is_size}
use Rattle.format_run.proofs.FirstLaws.{size_group, first_adds}

last_size : (xs : Items) → size (from_last_group xs) ≤ size xs
unfolding size from_last_group
last_size Items.none = omega arith
last_size (Items.field r k xs) = omega (arith, last_size xs)
last_size (Items.group r inside xs) = pick (has_group xs) (last_size xs)
  where
    pick : (b : Bool) → size (from_last_group xs) ≤ size xs
        → size (cond b (from_last_group xs) (Items.group r inside xs)) ≤ times r * size inside + size xs
    pick true h = omega arith
    pick false h = omega arith
last_size (Items.X n xs) = omega (arith, last_size xs)
last_size (Items.T n xs) = omega (arith, last_size xs)
last_size (Items.slash r xs) = omega (arith, last_size xs)
last_size (Items.literal cs xs) = omega (arith, last_size xs)
last_size (Items.setting k xs) = omega (arith, last_size xs)

-- with a group among the items, and without one
index_some : (xs : Items) → has_group xs ≡ true → return_index xs ≡ size xs - size (from_last_group xs)
unfolding return_index return_part
index_some xs e = rw (e, met_is_size xs, met_is_size (from_last_group xs))

index_none : (xs : Items) → has_group xs ≡ false → return_index xs ≡ 0
unfolding return_index return_part
index_none xs e = rw e (omega arith)

-- where the items from m on make the walk return to, the last group before them beginning at `back`
abbrev pub final_back : ℕ → ℕ → Items → ℕ
final_back back m xs = cond (has_group xs) (m + return_index xs) back

pub final_start : (n : ℕ) (xs : Items) → n + return_index xs ≡ final_back n n xs
final_start n xs = go (has_group xs) refl
  where
    go : (b : Bool) → has_group xs ≡ b → n + return_index xs ≡ cond b (n + return_index xs) n
    go true e = refl
    go false e = omega (arith, index_none xs e)

pub final_none : (back m : ℕ) → final_back back m Items.none ≡ back
unfolding has_group
final_none back m = refl

pub final_first : {xs next : Items} {r : ℕ} {k : Met} (back m e : ℕ)
    → First xs r k next → e ≡ m + r → final_back back m xs ≡ final_back back e next
final_first {xs} {next} {r} back m e f h = rw (first_adds f).group_is (go (has_group next) refl)
  where
    go : (b : Bool) → has_group next ≡ b → cond b (m + return_index xs) back ≡ cond b (e + return_index next) back
    go true q =
        let p : size (from_last_group xs) ≡ size (from_last_group next) = ap size (first_adds f).last_is in
        omega (arith, index_some xs ((first_adds f).group_is ∙ q), index_some next q, (first_adds f).size_is, last_size next)
    go false q = refl

pub final_group : (r : Repeat) (inside next : Items) (back m e : ℕ)
    → e ≡ m + times r * size inside → final_back back m (Items.group r inside next) ≡ final_back m e next
unfolding has_group from_last_group
final_group r inside next back m e h = go (has_group next) refl
  where
    go : (b : Bool) → has_group next ≡ b → m + return_index (Items.group r inside next) ≡ cond b (e + return_index next) m
    go true q =
        let p : size (from_last_group (Items.group r inside next)) ≡ size (from_last_group next) = rw q in
        omega (arith, index_some (Items.group r inside next) refl, index_some next q, size_group r inside next, last_size next)
    go false q =
        let p : size (from_last_group (Items.group r inside next)) ≡ size (Items.group r inside next) = rw q in
        omega (arith, index_some (Items.group r inside next) refl)
