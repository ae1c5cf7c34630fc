-- The theorems on writing that specs/Promises.antt states.
-- Assumes nothing.
use mathlib.Core.Path.{◌≡◌, sym, ap, ◌∙◌, subst}
use Prim.Native.Nat.{ℕ, ◌*◌, ◌≤◌}
use native.Mathlib.Omega.{arith}
use lib.ListN.{length, drop, get_or}
use Rattle.sheet_walk.specs.Walk.{Trace}
use Rattle.sheet_walk.specs.Laid.{offset, blanked, written, columns}
use Rattle.sheet_walk.proofs.Windows.{length_laid, drop_laid}
use Rattle.sheet_walk.proofs.Promises.{columns_kept}
use Rattle.write_passes.specs.Placed.{characters}
use Rattle.sheet_walk.specs.Answers.{answer_number, answer_place, answer_records, answer_starred}
use Rattle.sheet_write.specs.Writing.{Writing, accepts, answer_of, buffer_of}
use Rattle.sheet_write.specs.Promises.{Call, values_of, becomes, AcceptableCall, AnsweredBy, AlwaysAnswered, AnsweredOnly, AcceptsExactly, RefusedSo, ElementsPut, PlacedRight, Unrepresentable, Counted, StarsExactlyWhen, NumeralsShown, StarredIsTheirNumber, RecordsReached, LastHolds, BlankElsewhere, ColumnsHold, RestKept}
use Rattle.sheet_write.proofs.Accepted.{some_reached, room, all_fit, all_suited, puts_all}
use Rattle.sheet_write.proofs.Answering.{passes, meets_only}
use Rattle.sheet_write.proofs.Bytes.{length_blanked, drop_blanked, written_last, written_blank}
use Rattle.sheet_write.proofs.Calls.{Came, came, buffer_is}
use Rattle.sheet_write.proofs.Starred.{field_stars, field_shows, counted}

-- ---- which row answers

pub always_answered : AlwaysAnswered
always_answered c = go (came c)
  where
    go : {w : Writing} → Came c w → AnsweredBy c (answer_number (answer_of (values_of c) w)) (answer_place (answer_of (values_of c) w))
    go (Came.accepted a) = AnsweredBy.acceptable a
    go (Came.refused r) = r

pub answered_only : AnsweredOnly
answered_only c k p a = meets_only c a

-- an accepted call has passed every row
acceptable : (c : Call) (t : Trace) (n : ℕ) → becomes c ≡ accepts t n → AcceptableCall c t n
acceptable c t n e = go (subst (Came c) e (came c))
  where
    go : {t : Trace} {n : ℕ} → Came c (accepts t n) → AcceptableCall c t n
    go (Came.accepted a) = a

pub accepts_exactly : AcceptsExactly
accepts_exactly c t n = (acceptable c t n, passes c t n)

pub refused_so : RefusedSo
refused_so c why e = (
  ap (λ w. answer_number (answer_of (values_of c) w)) e,
  ap (λ w. answer_place (answer_of (values_of c) w)) e,
  ap (λ w. answer_records (answer_of (values_of c) w)) e,
  ap (λ w. answer_starred (answer_of (values_of c) w)) e,
  ap (buffer_of c.R c.area (values_of c) c.buffer) e,
)

-- ---- what an accepted writing puts

pub elements_put_lem : ElementsPut
elements_put_lem c t n e = puts_all (acceptable c t n e)

pub placed_right : PlacedRight
placed_right c t n e p m =
    let a = acceptable c t n e in
    let fit = all_fit a p m in
    (fit.0, fit.1, all_suited a p m)

-- ---- 'Stars and reading back', first half

pub stars_exactly_when : StarsExactlyWhen
stars_exactly_when c t n e p m i f q g = rw q (field_stars c.area p.settings (values_of c) i f p.width (all_suited (acceptable c t n e) p m i f q) g)

pub numerals_shown : NumeralsShown
numerals_shown c t n e p m i f q g none =
    rw q (field_shows c.area p.settings (values_of c) i f p.width (all_suited (acceptable c t n e) p m i f q) g none)

pub starred_is_their_number : StarredIsTheirNumber
starred_is_their_number c t n e =
    subst (Counted (Unrepresentable (values_of c)) t) (sym (ap (λ w. answer_starred (answer_of (values_of c) w)) e)) (counted (values_of c) t (all_suited (acceptable c t n e)))

-- ---- records and bytes

pub records_reached : RecordsReached
records_reached c t n e =
    let a = acceptable c t n e in
    (a.ends, ap (λ w. answer_records (answer_of (values_of c) w)) e, some_reached a, room a)

pub last_holds : LastHolds
last_holds c t n e p r k last =
    let a = acceptable c t n e in
    ap (λ b. get_or b (offset c.R r k) 0) (buffer_is c t n e)
    ∙ written_last c.R n (characters c.area (values_of c)) last c.buffer (room a) (all_fit a)

pub blank_elsewhere : BlankElsewhere
blank_elsewhere c t n e r k h from to none =
    let a = acceptable c t n e in
    ap (λ b. get_or b (offset c.R r k) 0) (buffer_is c t n e)
    ∙ written_blank c.R n (characters c.area (values_of c)) r k t h from to none c.buffer (room a) (all_fit a)

pub columns_hold : ColumnsHold
unfolding written
columns_hold c t n e once p m =
    let a = acceptable c t n e in
    let l = length_blanked c.R n c.buffer (room a) in
    ap (columns c.R p) (buffer_is c t n e)
    ∙ columns_kept c.R n (characters c.area (values_of c)) t (blanked c.R n c.buffer) once (omega (arith, room a)) (all_fit a) p m

pub rest_kept : RestKept
unfolding written
rest_kept c t n e =
    let a = acceptable c t n e in
    let l = length_blanked c.R n c.buffer (room a) in
    let h : n * c.R ≤ length (blanked c.R n c.buffer) = omega (arith, room a) in (
      ap length (buffer_is c t n e) ∙ length_laid c.R n (characters c.area (values_of c)) t (blanked c.R n c.buffer) h (all_fit a) ∙ l,
      ap (drop (n * c.R)) (buffer_is c t n e) ∙ drop_laid c.R n (characters c.area (values_of c)) t (blanked c.R n c.buffer) h (all_fit a)
          ∙ drop_blanked c.R n c.buffer,
    )
