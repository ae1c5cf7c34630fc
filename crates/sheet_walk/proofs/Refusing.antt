-- Why an item, or the end of the format, is refused, and with it the walk.
-- Assumes nothing.
use mathlib.Core.Path.{◌≡◌, subst}
use mathlib.Core.List.{List}
use Prim.Native.Nat.{◌+◌}
use borrow.Author.Tests.{le-ltb, lt-leb}
use lib.ListN.{length, get_or}
use lib.Seq.{drop-cons}
use Rattle.format_items.specs.Met.{Met}
use Rattle.list_elements.specs.Elements.{Kind, integer}
use Rattle.sheet_walk.specs.declared.Refusal.{Refusal}
use Rattle.sheet_walk.specs.declared.State.{State}
use Rattle.sheet_walk.specs.Steps.{Records, refused, field_width, step, end_step}
use Rattle.sheet_walk.specs.Walk.{pass}
use Rattle.sheet_walk.specs.Promises.{ItemRefused, ItemRefusedIs, EndRefused, EndRefusedIs, StopsWith, RefusedThere, RefusedOnlyThere}
use Rattle.sheet_walk.proofs.Returns.{end_is}
use Rattle.sheet_walk.proofs.Coming.{whole_too}
use Rattle.sheet_walk.proofs.StepLaws.{Does, step_does, AtEnd, end_does}

module _ (kinds : List Kind) (rs : Records) (s : State) where
  item_refused : {x : Met} {why : Refusal} → ItemRefused kinds rs s x why → step kinds rs x s ≡ refused why
  unfolding step
  item_refused (ItemRefused.wrong_kind h e) = rw (drop-cons kinds s.taken integer h, e)
  item_refused (ItemRefused.field_columns_lem {f} h e l) =
      let k : Kind = get_or kinds s.taken integer in
      rw (drop-cons kinds s.taken integer h, e, lt-leb (s.column + field_width f k) (rs.width + 1) l)
  item_refused (ItemRefused.literal_columns {cs} l) = rw (lt-leb (s.column + length cs) (rs.width + 1) l)
  item_refused (ItemRefused.X-column {n} l) = rw (lt-leb (s.column + n) (rs.width + 1) l)
  item_refused (ItemRefused.T-column {n} l) = rw (lt-leb n rs.width l)
  item_refused (ItemRefused.slash_record l) = rw (le-ltb (s.row + 1) rs.count l)

  end_refused : {part : List Met} {why : Refusal} → EndRefused kinds rs part s why → end_step kinds rs part s ≡ refused why
  unfolding end_step
  end_refused (EndRefused.no_field h e) = rw (lt-leb (length kinds) s.taken h, e)
  end_refused (EndRefused.no_record h e l) = rw (lt-leb (length kinds) s.taken h, e, le-ltb (s.row + 1) rs.count l)

pub item_refused_is : ItemRefusedIs
item_refused_is kinds rs x s why = (λ e. subst (Does kinds rs x s) e (step_does kinds rs s x), λ h. item_refused kinds rs s h)

pub end_refused_is : EndRefusedIs
end_refused_is kinds rs part s why = (λ e. subst (AtEnd kinds rs s part) e (end_does kinds rs s part), λ h. end_refused kinds rs s h)

-- ---- the walk

pub refused_only_there : RefusedOnlyThere
unfolding pass
refused_only_there h s why (RefusedThere.at_item c r) = whole_too h (StopsWith why) (λ p t. StopsWith.there) c (rw (item_refused h.kinds h.records s r) StopsWith.here)
refused_only_there h s why (RefusedThere.at_end_lem c r) = whole_too h (StopsWith why) (λ p t. StopsWith.there) c (rw (end_is h s, end_refused h.kinds h.records s r) StopsWith.here)
