use Rattle.std.proofs.Common.{◌≡◌, refl, ap, rules}
use Rattle.std.specs.Prelude.{Err}
use Rattle.sheet_walk.proofs.Following.{end_moves, end_refused, end_ends, end_no_field, end_next}
use Rattle.sheet_walk.proofs.walk.Walk.end.Goals as goal

pub returns-then-self-place : goal.returns-then-self-place
returns-then-self-place c = end_ends c.args.self.now c.requires c.if-self-place.true

pub returns-then-not-self : goal.returns-then-not-self
returns-then-not-self c = end_no_field c.args.self.now c.requires c.if-self-place.false c.if-not-self.true

pub returns-in_err-next_record : goal.returns-in_err-next_record
returns-in_err-next_record c =
    let w = c.args.self.now in
    let why = c.in_err-next_record.field-0.0 in
    let r : c.from_residual.result ≡ Err why = search rules in
    rw r (end_refused w c.requires why c.next_record.new.self.state (end_next w c.requires c.if-self-place.false c.if-not-self.false) c.in_err-next_record.was c.next_record.ensures.moves)

pub returns : goal.returns
returns c =
    let w = c.args.self.now in
    let s = c.next_record.ensures.same in
    end_moves w c.requires c.next_record.new.self _ s refl (record { run = s.run; elements = s.elements; records = s.records }) (ap (λ u. u.back) s.run) (end_next w c.requires c.if-self-place.false c.if-not-self.false) c.in_ok-next_record.was c.next_record.ensures.moves
