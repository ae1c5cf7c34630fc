-- What follows where every row is passed: of the walk, its fields, and the contents gathered on it.
-- Assumes nothing.
use mathlib.Core.Path.{◌≡◌, ap, ◌∙◌}
use mathlib.Core.List.{List, map}
use Prim.Native.Nat.{ℕ, ◌/◌, ◌≤◌}
use native.Mathlib.Omega.{arith}
use lib.ListN.{length, length-map}
use Rattle.list_elements.specs.Elements.{kind_of, values, most_elements}
use Rattle.list_elements.specs.Limits.{may_be_wanted}
use Rattle.list_elements.specs.Contents.{Content, content_kind, texts_of}
use Rattle.list_elements.proofs.GoodLaws.{values_most, check_good}
use Rattle.list_elements.proofs.ContentLaws.{texts_length_lem}
use Rattle.sheet_walk.specs.Steps.{Placement}
use Rattle.sheet_walk.specs.Walk.{Trace, Sheet, sheet}
use Rattle.sheet_walk.specs.Columns.{In}
use Rattle.sheet_walk.specs.Promises.{elements_put, numbers_from}
use Rattle.sheet_walk.proofs.Covering.{length_numbers}
use Rattle.sheet_walk.proofs.Promises.{elements_suited, puts_each}
use Rattle.read_passes.specs.Given.{kind_at}
use Rattle.read_passes.proofs.OrderLaws.{SuitsAt, kinds_at, gathers_length, gathers_kinds}
use Rattle.sheet_read.specs.Promises.{Call, kinds_of, AcceptableCall}
use Rattle.sheet_read.proofs.Calls.{GathersOn}

module _ {c : Call} {t : Trace} {n : ℕ} (a : AcceptableCall c t n) where
  -- what its walk goes by
  abbrev sheet_of : Sheet
  sheet_of = sheet a.xs (kinds_of c) (record { width = c.R; count = length c.records / c.R })

  -- every element is put once, in order
  pub puts_all : elements_put t ≡ numbers_from 0 (length (kinds_of c))
  puts_all = ap elements_put a.is ∙ puts_each sheet_of n (rw a.is at a.ends)

  -- its fields suit their elements
  all_suited : (p : Placement) → In p t → SuitsAt (kinds_of c) p
  all_suited = rw a.is (λ p m i f q. (elements_suited sheet_of p m i f q).suited)

  -- at most 64 elements are wanted
  few : length (kinds_of c) ≤ most_elements
  few =
      let g = (check_good may_be_wanted c.wanted a.walks.list.good).1 in
      let l = length-map (values c.wanted) kind_of in
      omega (arith, values_most c.wanted)

  module _ {cs : List Content} (g : GathersOn c t cs n) where
    -- as many contents as elements wanted, of their kinds, and room for their texts
    pub as_many : length cs ≡ length (kinds_of c)
    as_many = gathers_length g ∙ ap length puts_all ∙ length_numbers 0 (length (kinds_of c))

    pub few_contents : length cs ≤ most_elements
    few_contents = rw as_many few

    pub contents_kinds : map content_kind cs ≡ kinds_of c
    contents_kinds = gathers_kinds g all_suited ∙ ap (map (kind_at (kinds_of c))) puts_all ∙ kinds_at (kinds_of c) 0 (length (kinds_of c)) (omega arith)

    pub texts_room : length (texts_of cs) ≤ length c.area
    texts_room = rw (texts_length_lem cs, contents_kinds) a.walks.list.room
