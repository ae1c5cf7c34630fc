-- What follows where every row is passed: of the walk, its placements, and the records.
-- Assumes nothing.
use mathlib.Core.Path.{◌≡◌, sym, ap, subst, ◌∙◌}
use mathlib.Core.List.{map}
use Prim.Native.Nat.{ℕ, ◌*◌, ◌/◌, ◌≤◌}
use native.Mathlib.Nat.{le_trans, mul-le-mul_right, div-mul-le_self}
use lib.ListN.{length, length-map}
use Rattle.format_items.specs.Items.{Field}
use Rattle.format_grammar.proofs.Promises.{met_in_range}
use Rattle.list_elements.specs.Elements.{kind_of}
use Rattle.sheet_walk.specs.Steps.{element, Placement}
use Rattle.sheet_walk.specs.Walk.{Trace, Sheet, sheet, walk}
use Rattle.sheet_walk.specs.Columns.{In}
use Rattle.sheet_walk.specs.Promises.{Walkable, EndsWith, Suited, elements_put, numbers_from}
use Rattle.sheet_walk.proofs.Covering.{sheet_walkable}
use Rattle.sheet_walk.proofs.FieldRanges.{FieldWithin, fields_within, ends_reached}
use Rattle.sheet_walk.proofs.Promises.{covers_reached, elements_suited, puts_each}
use Rattle.sheet_walk.proofs.Windows.{AllFit}
use Rattle.write_passes.specs.Placed.{characters}
use Rattle.write_passes.proofs.PlacedLaws.{characters_long}
use Rattle.sheet_write.specs.Promises.{Call, values_of, AcceptableCall}

module _ {c : Call} {t : Trace} {n : ℕ} (a : AcceptableCall c t n) where
  -- what its walk goes by
  abbrev sheet_of : Sheet
  sheet_of = sheet a.xs (map kind_of (values_of c)) (record { width = c.R; count = length c.buffer / c.R })

  walkable : Walkable sheet_of
  walkable =
      sheet_walkable a.xs (map kind_of (values_of c)) (record { width = c.R; count = length c.buffer / c.R })
      (met_in_range c.format a.xs a.walks.format).0 a.walks.some_record

  -- a law of the walk, for t
  of_walk : (P : Trace → Type 0) → P (walk sheet_of) → P t
  of_walk P = subst P (sym a.is)

  ends_walk : EndsWith n (walk sheet_of)
  ends_walk = subst (EndsWith n) a.is a.ends

  -- one record at least, and no more than the buffer holds
  pub some_reached : 1 ≤ n
  some_reached = ends_reached sheet_of n ends_walk

  pub room : n * c.R ≤ length c.buffer
  room =
      let few = (covers_reached sheet_of walkable n ends_walk).0 in
      le_trans (mul-le-mul_right c.R few) (div-mul-le_self (length c.buffer) c.R)

  -- the placements lie in these records, with as many characters as columns
  pub all_fit : AllFit c.R n (characters c.area (values_of c)) t
  all_fit =
      of_walk (AllFit c.R n (characters c.area (values_of c)))
      (λ p m. ((covers_reached sheet_of walkable n ends_walk).1 p m, characters_long c.area (values_of c) sheet_of walkable p m))

  -- the fields have elements of their kinds
  pub all_suited : (p : Placement) → In p t → (i : ℕ) (f : Field ℕ) → p.what ≡ element i f → Suited (map kind_of (values_of c)) i f p.width
  all_suited =
      of_walk (λ s. (p : Placement) → In p s → (i : ℕ) (f : Field ℕ) → p.what ≡ element i f → Suited (map kind_of (values_of c)) i f p.width)
      (elements_suited sheet_of)

  -- and their numbers are within their ranges
  pub all_within : (p : Placement) → In p t → FieldWithin p
  all_within = of_walk (λ s. (p : Placement) → In p s → FieldWithin p) (fields_within sheet_of walkable)

  -- every element is put once, in order
  pub puts_all : elements_put t ≡ numbers_from 0 (length (values_of c))
  puts_all = ap elements_put a.is ∙ puts_each sheet_of n ends_walk ∙ ap (numbers_from 0) (length-map (values_of c) kind_of)
