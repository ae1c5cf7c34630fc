-- The items met: how many they are, and where the part that the walk returns to stands among them.
-- Assumes nothing.
use mathlib.Core.Path.{◌≡◌, refl, sym, ap, ◌∙◌}
use mathlib.Core.Bool.{Bool, true, false, false≢true}
use mathlib.Core.List.{List, [], ◌∷◌, ◌++◌, append_assoc}
use Prim.Native.Nat.{ℕ, zero, suc, ◌-◌, ◌*◌}
use native.Mathlib.Nat.{zero-mul}
use native.Mathlib.Omega.{arith}
use lib.ListN.{length, replicate, drop, length-append, length-replicate}
use lib.Seq.{drop_at}
use Rattle.format_items.specs.Items.{value_of, Repeat, times, Items, join}
use Rattle.format_items.specs.Size.{size}
use Rattle.format_items.specs.Met.{Met, repeat, met, field_values, has_group, from_last_group, return_part, return_index}
use Rattle.format_items.specs.Promises.{NoGroup, ReturnsTo, MetIsSize, ReturnPartIs, ReturnIndexIs}

pub length_repeat : {A : Type 0} (n : ℕ) (xs : List A) → length (repeat n xs) ≡ n * length xs
unfolding repeat
length_repeat zero xs = sym (zero-mul (length xs))
length_repeat (suc n) xs = rw (length-append xs (repeat n xs), length_repeat n xs) (omega arith)

pub met_is_size : MetIsSize
unfolding met size
met_is_size Items.none = refl
met_is_size (Items.field r k xs) = rw (length-append (replicate (times r) (Met.field (field_values k))) (met xs), length-replicate (times r) (Met.field (field_values k)), met_is_size xs)
met_is_size (Items.group r inside xs) = rw (length-append (repeat (times r) (met inside)) (met xs), length_repeat (times r) (met inside), met_is_size inside, met_is_size xs)
met_is_size (Items.X n xs) = rw (met_is_size xs) (omega arith)
met_is_size (Items.T n xs) = rw (met_is_size xs) (omega arith)
met_is_size (Items.slash r xs) = rw (length-append (replicate (times r) Met.slash) (met xs), length-replicate (times r) Met.slash, met_is_size xs)
met_is_size (Items.literal cs xs) = rw (met_is_size xs) (omega arith)
met_is_size (Items.setting k xs) = rw (met_is_size xs) (omega arith)

pub met_join : (xs ys : Items) → met (join xs ys) ≡ met xs ++ met ys
unfolding met join
met_join Items.none ys = refl
met_join (Items.field r k xs) ys = rw (met_join xs ys) (sym (append_assoc (replicate (times r) (Met.field (field_values k))) (met xs) (met ys)))
met_join (Items.group r inside xs) ys = rw (met_join xs ys) (sym (append_assoc (repeat (times r) (met inside)) (met xs) (met ys)))
met_join (Items.X n xs) ys = ap (Met.X (value_of n) ∷◌) (met_join xs ys)
met_join (Items.T n xs) ys = ap (Met.T (value_of n) ∷◌) (met_join xs ys)
met_join (Items.slash r xs) ys = rw (met_join xs ys) (sym (append_assoc (replicate (times r) Met.slash) (met xs) (met ys)))
met_join (Items.literal cs xs) ys = ap (Met.literal cs ∷◌) (met_join xs ys)
met_join (Items.setting k xs) ys = ap (Met.setting k ∷◌) (met_join xs ys)

-- ---- the part to return to

-- items that have a group: those before the rightmost one, it, and those after it
record Last (xs : Items) : Type 0 where
  before : Items
  r : Repeat
  inside : Items
  after : Items
  split : xs ≡ join before (Items.group r inside after)
  no_more : has_group after ≡ false
  found : from_last_group xs ≡ Items.group r inside after

-- one more item before them
further : (f : Items → Items) (xs : Items) → ((x y : Items) → join (f x) y ≡ f (join x y)) → from_last_group (f xs) ≡ from_last_group xs → Last xs → Last (f xs)
further f xs j e h =
    record {
      before = f h.before;
      r = h.r;
      inside = h.inside;
      after = h.after;
      split = ap f h.split ∙ sym (j h.before _);
      no_more = h.no_more;
      found = e ∙ h.found;
    }

last_group : (xs : Items) → has_group xs ≡ true → Last xs
unfolding has_group from_last_group join
last_group Items.none e = absurd (false≢true e)
last_group (Items.field r k xs) e = further (Items.field r k) xs (λ x y. refl) refl (last_group xs e)
last_group (Items.group r inside xs) e = go (has_group xs) refl (last_group xs)
  where
    go : (t : Bool) → has_group xs ≡ t → (has_group xs ≡ true → Last xs) → Last (Items.group r inside xs)
    go true f rec = further (Items.group r inside) xs (λ x y. refl) (rw f) (rec f)
    go false f rec = record { before = Items.none; r = r; inside = inside; after = xs; split = refl; no_more = f; found = rw f }
last_group (Items.X n xs) e = further (Items.X n) xs (λ x y. refl) refl (last_group xs e)
last_group (Items.T n xs) e = further (Items.T n) xs (λ x y. refl) refl (last_group xs e)
last_group (Items.slash r xs) e = further (Items.slash r) xs (λ x y. refl) refl (last_group xs e)
last_group (Items.literal cs xs) e = further (Items.literal cs) xs (λ x y. refl) refl (last_group xs e)
last_group (Items.setting k xs) e = further (Items.setting k) xs (λ x y. refl) refl (last_group xs e)

-- a group among the items is found
group_found : (before : Items) (r : Repeat) (inside after : Items) → has_group (join before (Items.group r inside after)) ≡ true
unfolding has_group join
group_found Items.none r inside after = refl
group_found (Items.field q k xs) r inside after = group_found xs r inside after
group_found (Items.group q ys xs) r inside after = refl
group_found (Items.X n xs) r inside after = group_found xs r inside after
group_found (Items.T n xs) r inside after = group_found xs r inside after
group_found (Items.slash q xs) r inside after = group_found xs r inside after
group_found (Items.literal cs xs) r inside after = group_found xs r inside after
group_found (Items.setting k xs) r inside after = group_found xs r inside after

no_group : (xs : Items) → has_group xs ≡ false → NoGroup xs
no_group xs e before r inside after f = false≢true (sym e ∙ ap has_group f ∙ group_found before r inside after)

pub return_part_is : ReturnPartIs
unfolding return_part
return_part_is xs = go (has_group xs) refl
  where
    go : (t : Bool) → has_group xs ≡ t → ReturnsTo xs (return_part xs)
    go true e = let h = last_group xs e in rw (e, h.found) (ReturnsTo.last h.before h.split (no_group h.after h.no_more))
    go false e = rw e (ReturnsTo.whole (no_group xs e))

-- ---- where it begins among the items met

-- the items met before it, and its own
met_split : {xs ys : Items} → ReturnsTo xs ys → (ms : List Met) × (met xs ≡ ms ++ met ys)
met_split (ReturnsTo.whole e) = ([], refl)
met_split (ReturnsTo.last before {inside} {after} {r} e f) = (met before, rw e (met_join before (Items.group r inside after)))

drop_before : (ms ns all : List Met) → all ≡ ms ++ ns → drop (length all - length ns) all ≡ ns
drop_before ms ns all e = rw e (drop_at ms ns (length (ms ++ ns) - length ns) (rw (length-append ms ns) (omega arith)))

pub return_index_is : ReturnIndexIs
unfolding return_index
return_index_is xs = let h = met_split (return_part_is xs) in drop_before h.0 (met (return_part xs)) (met xs) h.1
