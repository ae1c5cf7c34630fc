-- The loop that unrolls items.
-- Assumes nothing.
use Rattle.std.proofs.Common.{◌≡◌, refl, sym, ap, ◌∙◌, List, [], ◌∷◌, ◌++◌, append_assoc, append-nil, ℕ, zero, suc, ◌+◌, ◌-◌, ◌*◌, ◌<◌, ◌≤◌, arith, length, take, drop, length-append}
use Rattle.std.proofs.lemmas.List.Elements.{All-nil, All-cons, All-append}
use mathlib.Core.List.{map-append}
use lib.ListN.{set, replicate, length-set, length-drop}
use lib.Seq.{length-take-le, take_at, take-add, drop_at, take-append-le, take_all, drop-cons, get_or-set_same}
use native.Mathlib.Nat.{mul-one}
use Rattle.format_items.specs.Items.{times, Items}
use Rattle.format_items.specs.Ranges.{numbers, AllWithin}
use Rattle.format_items.specs.Size.{size}
use Rattle.format_items.specs.Met.{Met, repeat, met, return_index}
use Rattle.format_words.specs.Words.{met_in, RunPacked}
use Rattle.format_words.specs.declared.packed.Packed.{Packed}
use Rattle.format_words.specs.declared.Entry.{Entry}
use Rattle.format_words.specs.declared.Entry.TheVariants as entry
use Rattle.format_words.specs.Held.{Holds}
use Rattle.format_run.specs.Runs.{SomeItemsFit, AreMet}
use Rattle.format_items.proofs.MetLaws.{met_is_size, length_repeat}
use Rattle.format_run.proofs.FirstLaws.{repeat_one, some_first, within_first, size_group, met_group, some_group, within_inside, within_next, first_adds}
use Rattle.format_run.proofs.Views.{as_item, as_group, none_left}
use Rattle.format_run.proofs.Repeating.{once_at_most}
use Rattle.format_run.proofs.Backs.{final_back, final_start, final_none, final_first, final_group}

-- ---- words that stand for items met

module _ {t : List ℕ} {c : ℕ} where
  met_none : AreMet t c [] []
  met_none = record { sound = All-nil (RunPacked c); mean = refl }

  met_one : {w : Packed} → RunPacked c w → AreMet t c (w ∷ []) (met_in t w ∷ [])
  met_one {w} s = record { sound = All-cons (RunPacked c) w [] s (All-nil (RunPacked c)); mean = refl }

  met_more : {vs ws : List Packed} {ks js : List Met} → AreMet t c vs ks → AreMet t c ws js → AreMet t c (vs ++ ws) (ks ++ js)
  met_more {vs} {ws} a b =
      record { sound = All-append (RunPacked c) vs ws a.sound b.sound; mean = map-append (met_in t) vs ws ∙ rw (a.mean, b.mean) }

  met_repeat : (r : ℕ) {ws : List Packed} {ks : List Met} → AreMet t c ws ks → AreMet t c (repeat r ws) (repeat r ks)
  unfolding repeat
  met_repeat zero a = met_none
  met_repeat (suc r) a = met_more a (met_repeat r a)

-- ---- a part of the run written

-- the first e words, and the first m of those written after them
part_words : {A : Type 0} (front new post : List A) (e m : ℕ) → length front ≡ e → m ≤ length new → take (e + m) (front ++ (new ++ post)) ≡ front ++ take m new
part_words front new post e m l g =
    take-add e m (front ++ (new ++ post))
    ∙ rw (take_at front (new ++ post) e l, drop_at front (new ++ post) e l, take-append-le m new post g)

-- the words from e on
pub part_long : {A : Type 0} (run : List A) (e : ℕ) → length (take (length run - e) (drop e run)) ≡ length run - e
part_long run e = length-take-le (length run - e) (drop e run) (omega (arith, length-drop e run))

-- a word that is put there stands first
pub one_is : {A : Type 0} (run : List A) (e : ℕ) (w : A) → e < length run → take 1 (take (length (set run e w) - e) (drop e (set run e w))) ≡ w ∷ []
one_is run e w h =
    let now = set run e w in
    let l : e < length now = omega (arith, length-set run e w) in
    ap (take 1) (take_all (length now - e) (drop e now) (omega (arith, length-drop e now)) ∙ drop-cons now e w l)
    ∙ ap (λ x. x ∷ []) (get_or-set_same run e w w h)

-- ---- there is room for the first item

module _ {es : List Entry} {l room : ℕ} (f : SomeItemsFit es l room) where
  pub fits_group : {n r : ℕ} {tail : List Entry} → es ≡ entry.Group n r ∷ tail → SomeItemsFit (take n tail) (l - 1) room
  fits_group {n} {r} {tail} e =
      let g = as_group (rw e at f.holds) in
      let w : AllWithin (numbers (Items.group g.r g.inside g.next)) = rw g.is at f.ranges in
      let s : size f.items ≡ times g.r * size g.inside + size g.next = ap size g.is ∙ size_group g.r g.inside g.next in
      record {
        t = f.t;
        c = f.c;
        items = g.inside;
        holds = g.one;
        ranges = within_inside g.r g.inside g.next w;
        fits = omega (arith, f.fits, s, once_at_most (times g.r) (size g.inside) (some_group g.r g.inside g.next w));
      }

  -- r times m words, as many as the items of the group are
  pub fits_again : {n r : ℕ} {tail : List Entry} → es ≡ entry.Group n r ∷ tail → (m : ℕ)
      → ((t : List ℕ) (c : ℕ) (ys : Items) → Holds t c (l - 1) (take n tail) ys → m ≡ length (met ys)) → (1 ≤ r) × (r * m ≤ room)
  fits_again {n} {r} {tail} e m call =
      let g = as_group (rw e at f.holds) in
      let w : AllWithin (numbers (Items.group g.r g.inside g.next)) = rw g.is at f.ranges in
      let s : size f.items ≡ times g.r * size g.inside + size g.next = ap size g.is ∙ size_group g.r g.inside g.next in
      let k : m ≡ size g.inside = call f.t f.c g.inside g.one ∙ met_is_size g.inside in
      let p : r * m ≡ times g.r * size g.inside = ap (λ (q : ℕ). q * m) g.repeats ∙ ap (λ (q : ℕ). times g.r * q) k in
      (omega (arith, g.repeats, some_group g.r g.inside g.next w), omega (arith, f.fits))

  -- the group's level and entries
  pub fits_levels : {n r : ℕ} {tail : List Entry} → es ≡ entry.Group n r ∷ tail → (1 ≤ l) × (n ≤ length tail)
  fits_levels e = let g = as_group (rw e at f.holds) in (g.deep, g.few)

  pub fits_item : {w : Packed} {r : ℕ} {tail : List Entry} → es ≡ entry.Item r w ∷ tail → (1 ≤ r) × (r ≤ room)
  fits_item e =
      let i = as_item (rw e at f.holds) in
      (some_first i.first f.ranges, omega (arith, f.fits, (first_adds i.first).size_is))

-- ---- the loop: the items that `rest` holds are left, those before them are met in the first `end` words

pub record Rest (t : List ℕ) (c l : ℕ) (run : List Packed) (end back : ℕ) (rest : List Entry) (xs : Items) : Type 0 where
  pub zs : Items
  pub holds : Holds t c l rest zs
  pub ranges : AllWithin (numbers xs) → AllWithin (numbers zs)
  pub done : List Met
  pub split : met xs ≡ done ++ met zs
  pub count : end ≡ length done
  pub words : AreMet t c (take end run) done
  pub final : 0 + return_index xs ≡ final_back back end zs

pub record Unrolling (es : List Entry) (l : ℕ) (run : List Packed) (end back : ℕ) (rest : List Entry) : Type 0 where
  pub all : (t : List ℕ) (c : ℕ) (xs : Items) → Holds t c l es xs → Rest t c l run end back rest xs

pub unrolling_none : {es : List Entry} {l : ℕ} {run : List Packed} → Unrolling es l run 0 0 es
unrolling_none =
    record {
      all = λ t c xs h. record { zs = xs; holds = h; ranges = λ r. r; done = []; split = refl; count = refl; words = met_none; final = final_start 0 xs };
    }

module _ {es : List Entry} {l : ℕ} {run : List Packed} {end back : ℕ} {rest : List Entry} (w : Unrolling es l run end back rest) where
  pub fits_left : SomeItemsFit es l (length run) → (end ≤ length run) × SomeItemsFit rest l (length run - end)
  fits_left f =
      let g = w.all f.t f.c f.items f.holds in
      let s : size f.items ≡ length g.done + size g.zs =
      sym (met_is_size f.items) ∙ ap length g.split ∙ length-append g.done (met g.zs) ∙ rw (met_is_size g.zs) in
      (omega (arith, f.fits, g.count), record { t = f.t; c = f.c; items = g.zs; holds = g.holds; ranges = g.ranges f.ranges; fits = omega (arith, f.fits, g.count) })

  module _ (none : length rest ≡ 0) (t : List ℕ) (c : ℕ) (xs : Items) (h : Holds t c l es xs) where
    all_done : met xs ≡ (w.all t c xs h).done
    unfolding met
    all_done = let g = w.all t c xs h in g.split ∙ ap (λ z. g.done ++ met z) (none_left g.holds none) ∙ append-nil g.done

    pub unrolling_count : end ≡ length (met xs)
    unrolling_count = (w.all t c xs h).count ∙ ap length (sym all_done)

    pub unrolling_words : AreMet t c (take end run) (met xs)
    unrolling_words = rw all_done (w.all t c xs h).words

    pub unrolling_final : back ≡ return_index xs
    unrolling_final =
        let g = w.all t c xs h in
        let e : back ≡ 0 + return_index xs = sym (g.final ∙ ap (λ z. final_back back end z) (none_left g.holds none) ∙ final_none back end) in
        omega arith

  module _ (low : end ≤ length run) {front : List Packed} (same : front ≡ take end run) (new post : List Packed) (m : ℕ) (long : m ≤ length new) where
    -- the words written after the first `end`
    more : {t : List ℕ} {c : ℕ} {done ks : List Met} → AreMet t c (take end run) done → AreMet t c (take m new) ks
        → AreMet t c (take (end + m) (front ++ (new ++ post))) (done ++ ks)
    more {done} {ks} a b = rw (part_words front new post end m (ap length same ∙ length-take-le end run low) long) (met_more {vs = front} {ws = take m new} {ks = done} {js = ks} (rw same a) b)

    pub unrolling_item : {word : Packed} {r : ℕ} {tail : List Entry} → rest ≡ entry.Item r word ∷ tail → m ≡ r → take m new ≡ repeat r (word ∷ [])
        → Unrolling es l (front ++ (new ++ post)) (end + m) back tail
    unrolling_item {word} {r} {tail} e n is = record { all = λ t c xs h. step t c xs (w.all t c xs h) }
      where
        step : (t : List ℕ) (c : ℕ) (xs : Items) → Rest t c l run end back rest xs → Rest t c l (front ++ (new ++ post)) (end + m) back tail xs
        step t c xs g =
            let v = as_item (rw e at g.holds) in
            record {
              zs = v.next;
              holds = v.rest;
              ranges = λ r. within_first v.first (g.ranges r);
              done = g.done ++ repeat r (met_in t word ∷ []);
              split = g.split ∙ rw ((first_adds v.first).met_is, repeat_one) (sym (append_assoc g.done (replicate r (met_in t word)) (met v.next)));
              count = omega (arith, g.count, n, length-append g.done (repeat r (met_in t word ∷ [])), length_repeat r (met_in t word ∷ []), mul-one r);
              words = more g.words (rw is (met_repeat r (met_one v.sound)));
              final = g.final ∙ final_first back end (end + m) v.first (omega arith);
            }

    pub unrolling_group : {n r i : ℕ} {tail : List Entry} (one : List Packed) → rest ≡ entry.Group n r ∷ tail
        → ((t : List ℕ) (c : ℕ) (ys : Items) → Holds t c (l - 1) (take n tail) ys → i ≡ length (met ys))
        → ((t : List ℕ) (c : ℕ) (ys : Items) → Holds t c (l - 1) (take n tail) ys → AreMet t c one (met ys))
        → m ≡ r * i → take m new ≡ repeat r one → Unrolling es l (front ++ (new ++ post)) (end + m) end (drop n tail)
    unrolling_group {n} {r} {i} {tail} one e counts call k is = record { all = λ t c xs h. step t c xs (w.all t c xs h) }
      where
        step : (t : List ℕ) (c : ℕ) (xs : Items) → Rest t c l run end back rest xs → Rest t c l (front ++ (new ++ post)) (end + m) end (drop n tail) xs
        step t c xs g =
            let v = as_group (rw e at g.holds) in
            let s : m ≡ times v.r * size v.inside =
            k ∙ ap (λ (q : ℕ). r * q) (counts t c v.inside v.one ∙ met_is_size v.inside) ∙ ap (λ (q : ℕ). q * size v.inside) v.repeats in
            record {
              zs = v.next;
              holds = v.two;
              ranges = λ r. within_next v.r v.inside v.next (rw v.is at (g.ranges r));
              done = g.done ++ repeat r (met v.inside);
              split = g.split
                  ∙ ap (λ z. g.done ++ met z) v.is
                  ∙ ap (λ z. g.done ++ z) (met_group v.r v.inside v.next)
                  ∙ ap (λ q. g.done ++ (repeat q (met v.inside) ++ met v.next)) (sym v.repeats)
                  ∙ sym (append_assoc g.done (repeat r (met v.inside)) (met v.next));
              count = omega (arith, g.count, s, length-append g.done (repeat r (met v.inside)), length_repeat r (met v.inside), ap (λ (q : ℕ). q * length (met v.inside)) v.repeats, ap (λ (q : ℕ). times v.r * q) (met_is_size v.inside));
              words = more g.words (rw is (met_repeat r (call t c v.inside v.one)));
              final = g.final ∙ ap (λ z. final_back back end z) v.is ∙ final_group v.r v.inside v.next back end (end + m) (omega arith);
            }
