-- The placements of an accepted writing: their values fit their fields, and their columns hold what was put.
-- Assumes nothing.
use mathlib.Core.Path.{◌≡◌, refl, sym, ap, ◌∙◌}
use mathlib.Core.Bool.{Bool, true, false}
use mathlib.Core.List.{List, ◌++◌, map}
use Prim.Native.Nat.{ℕ, ◌+◌, ◌*◌, ◌<◌, ◌≤◌}
use native.Mathlib.Omega.{arith}
use lib.ListN.{length, take, drop, length-drop, length-append, length-map, take-append-drop, get_or-map}
use lib.Seq.{length-take-le, take-append-le, drop-append-le}
use Rattle.format_items.specs.Items.{Field}
use Rattle.list_elements.specs.Elements.{kind_of, zero_value}
use Rattle.list_elements.specs.Limits.{within_limits}
use Rattle.list_elements.specs.Contents.{content_kind}
use Rattle.list_elements.specs.declared.Value.{Value}
use Rattle.list_elements.proofs.GoodLaws.{good_at, check_good}
use Rattle.sheet_walk.specs.Steps.{element, Placement, suits, field_width}
use Rattle.sheet_walk.specs.Walk.{Trace}
use Rattle.sheet_walk.specs.Columns.{In, CoveredTwice, covered_twice}
use Rattle.sheet_walk.specs.Laid.{offset_of, columns}
use Rattle.sheet_walk.proofs.Promises.{covered_twice_is}
use Rattle.sheet_walk.proofs.Windows.{inside_room}
use Rattle.write_passes.specs.Placed.{value_at}
use Rattle.sheet_write.specs.Promises as writing
use Rattle.sheet_write.specs.Promises.{values_of, records_number, buffer_after, AcceptableCall}
use Rattle.sheet_write.proofs.Accepted.{all_suited, all_within}
use Rattle.sheet_write.proofs.Rounds.{rounds_small}
use Rattle.sheet_write.proofs.Promises.{accepts_exactly, placed_right, records_reached, columns_hold, rest_kept}
use Rattle.read_passes.specs.Given.{kind_at}
use Rattle.read_back.specs.DemandThree.{Accepted, puts}
use Rattle.read_back.proofs.FieldBack.{Fits, field_back, shown_kind}
use Rattle.read_back.proofs.Gathering.{shown_at, Back}

-- ---- a part of the first bytes, whatever follows them

part_of : (xs ys : List ℕ) (at w : ℕ) → at + w ≤ length xs → take w (drop at (xs ++ ys)) ≡ take w (drop at xs)
part_of xs ys at w h =
    let l : w ≤ length (drop at xs) = rw length-drop (omega arith) in
    rw (drop-append-le at xs ys (omega arith), take-append-le w (drop at xs) ys l)

part_first : (n : ℕ) (buffer following : List ℕ) (at w : ℕ) → at + w ≤ n → n ≤ length buffer → take w (drop at (take n buffer ++ following)) ≡ take w (drop at buffer)
part_first n buffer following at w h g =
    let l : at + w ≤ length (take n buffer) = rw (length-take-le n buffer g) h in
    part_of (take n buffer) following at w l
    ∙ sym (part_of (take n buffer) (drop n buffer) at w l)
    ∙ ap (λ (b : List ℕ). take w (drop at b)) (take-append-drop n buffer)

-- ---- an accepted writing

-- the kind at a place is that of the value there
pub kind_at_lem : (vs : List Value) (i : ℕ) → kind_at (map kind_of vs) i ≡ kind_of (value_at vs i)
kind_at_lem vs i = get_or-map kind_of vs i zero_value

module _ (c : writing.Call) (t : Trace) (e : Accepted c t) where
  -- every row is passed
  pub acceptable : AcceptableCall c t (records_number c)
  acceptable = (accepts_exactly c t (records_number c)).0 e

  -- the value of an element fits its field
  fits : (p : Placement) → In p t → (i : ℕ) (f : Field ℕ) → p.what ≡ element i f → Fits c.area (value_at (values_of c) i) f p.width
  fits p m i f q =
      let a = acceptable in
      let s = all_suited a p m i f q in
      let l : i < length (values_of c) = omega (arith, s.known, length-map (values_of c) kind_of) in
      record {
        suited = ap (suits f) (sym (kind_at_lem (values_of c) i)) ∙ s.suited;
        wide = s.wide ∙ ap (field_width f) (kind_at_lem (values_of c) i);
        ranges = all_within a p m i f q;
        good = good_at (within_limits c.area) (values_of c) (check_good (within_limits c.area) c.list a.walks.list).0 i l;
        small = rounds_small (values_of c) p (a.rounds p m) i f q;
      }

  -- the shown value of an element is of its kind
  pub shown_kinds : (p : Placement) → In p t → (i : ℕ) (f : Field ℕ) → p.what ≡ element i f → content_kind (shown_at c p i f) ≡ kind_at (map kind_of (values_of c)) i
  shown_kinds p m i f q = shown_kind c.area f (value_at (values_of c) i) p.width (fits p m i f q) ∙ sym (kind_at_lem (values_of c) i)

  -- ---- the records written, and whatever bytes follow them

  -- the records fit into the buffer afterwards
  room : records_number c * c.R ≤ length (buffer_after c)
  room = let l = (rest_kept c t (records_number c) e).0 in omega (arith, (records_reached c t (records_number c) e).3)

  module _ (following : List ℕ) where
    abbrev pub records : List ℕ
    records = take (records_number c * c.R) (buffer_after c) ++ following

    pub records_long : records_number c * c.R ≤ length records
    records_long =
        let l : length (take (records_number c * c.R) (buffer_after c)) ≡ records_number c * c.R = length-take-le (records_number c * c.R) (buffer_after c) room in
        omega (arith, length-append (take (records_number c * c.R) (buffer_after c)) following)

    module _ (once : (r k : ℕ) → CoveredTwice r k t → ⊥) where
      -- the test for a column covered twice fails
      test_once : covered_twice t ≡ false
      test_once = go (covered_twice t) refl
        where
          go : (b : Bool) → covered_twice t ≡ b → covered_twice t ≡ false
          go true g = let s = (covered_twice_is t).0 g in absurd (once s.0 s.1 s.2)
          go false g = g

      -- the columns of a placement hold what it put
      columns_put : (p : Placement) → In p t → columns c.R p records ≡ puts c p
      columns_put p m =
          part_first (records_number c * c.R) (buffer_after c) following (offset_of c.R p) p.width
          (inside_room c.R (records_number c) p (placed_right c t (records_number c) e p m).0) room
          ∙ columns_hold c t (records_number c) e test_once p m

      -- and give back the shown value, or nothing where the field is starred
      pub all_back : (p : Placement) → In p t → Back c c.R (map kind_of (values_of c)) records p
      all_back p m i f q =
          rw (kind_at_lem (values_of c) i, columns_put p m, q) (field_back c.area p.settings f (value_at (values_of c) i) p.width (fits p m i f q))
