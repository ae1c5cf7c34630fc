use Rattle.std.proofs.Common.{◌≡◌, refl, sym, ap, subst, ◌∙◌, length, rules}
use Rattle.std.specs.Prelude.{Ok, Err}
use Rattle.read_passes.specs.Passes.{Found}
use Rattle.sheet_walk.specs.declared.Refusal.TheVariants.{RecordWidth}
use Rattle.sheet_walk.proofs.WidthLaws.{width_is, width_refused}
use Rattle.sheet_read.specs.Parts.{ReadText}
use Rattle.sheet_read.specs.Promises.{Call}
use Rattle.sheet_read.proofs.Whole.{Accepting, wanted_within, width_answered, read_refused, read_accepted, finished}
use Rattle.sheet_read.proofs.read.read.Goals as goal
use Rattle.sheet_read.proofs.read.read.Goals.{In_ok-reached, After-read_under}

pub returns-in_err-width : goal.returns-in_err-width
returns-in_err-width c =
    let k : Call = record { R = c.args.width; format = c.args.format.now; wanted = c.args.wanted; area = c.args.area.now; records = c.args.records.now } in
    let n = width_refused k.R c.try_from.ensures c.in_err-width.was in
    let p = finished k.R k.format k.wanted k.area k.records (width_answered k n.1) in
    let r : c.from_residual.result ≡ Err RecordWidth = let q : c.from_residual.result ≡ Err c.in_err-width.field-0.0 = search rules in q ∙ ap (λ x. Err x) n.0 in
    rw r (record { answers = p.answers; values = p.values; texts = p.texts; number = p.number; place = p.place; records = p.records; starred = p.starred })

-- what was read under this width
read_of : (c : After-read_under) → ReadText c.args.width c.args.format.now c.wanted-wanted.result (length c.args.area.now) c.args.records.now c.read_under.result c.read_under.new.found
read_of c = rw (width_is c.args.width c.try_from.ensures c.in_ok-width.was) at c.read_under.ensures

-- what an accepted reading found
accepting : (c : In_ok-reached) → Accepting (record { R = c.args.width; format = c.args.format.now; wanted = c.args.wanted; area = c.args.area.now; records = c.args.records.now }) c.wanted-wanted.result c.wanted-wanted.ensures c.read_under.result c.read_under.new.found (read_of (goal.at.In_ok-reached c).After-read_under) c.in_ok-reached.reached
accepting c =
    let l : length c.read_under.new.found ≡ 64 = search rules in
    read_accepted (record { R = c.args.width; format = c.args.format.now; wanted = c.args.wanted; area = c.args.area.now; records = c.args.records.now }) c.wanted-wanted.result c.wanted-wanted.ensures c.read_under.result c.read_under.new.found (read_of (goal.at.In_ok-reached c).After-read_under)
    c.in_ok-reached.was (rw l (wanted_within c.args.wanted c.wanted-wanted.result c.wanted-wanted.ensures))

pub returns-in_err-reached : goal.returns-in_err-reached
returns-in_err-reached c =
    let k : Call = record { R = c.args.width; format = c.args.format.now; wanted = c.args.wanted; area = c.args.area.now; records = c.args.records.now } in
    let r : c.from_residual-in_err-reached.result ≡ Err c.in_err-reached.field-0.0 = search rules in
    let p = finished k.R k.format k.wanted k.area k.records (read_refused k c.wanted-wanted.result c.wanted-wanted.ensures c.read_under.result c.read_under.new.found (rw (width_is k.R c.try_from.ensures c.in_ok-width.was) at c.read_under.ensures) c.in_err-reached.was) in
    rw r (record { answers = p.answers; values = p.values; texts = p.texts; number = p.number; place = p.place; records = p.records; starred = p.starred })

pub unwrap-requires : goal.unwrap-requires
unwrap-requires c = let a = accepting (goal.at.unwrap-requires c).In_ok-reached in rw a.wanted_is refl

pub give-requires-clause-found : goal.give-requires-clause-found
give-requires-clause-found c =
    let a = accepting (goal.at.give-requires-clause-found c).In_ok-reached in
    let e : a.es ≡ c.unwrap.result = let q : Ok a.es ≡ Ok c.unwrap.result = sym a.wanted_is ∙ c.unwrap.ensures in cc in
    record { cs = a.cs; held = subst (λ z. Found c.args.records.now z.now c.read_under.new.found (length c.args.area.now) a.cs) e a.found_all }

pub returns : goal.returns
returns c =
    let k : Call = record { R = c.args.width; format = c.args.format.now; wanted = c.args.wanted; area = c.args.area.now; records = c.args.records.now } in
    let a = accepting (goal.at.returns c).In_ok-reached in
    let e : a.es ≡ c.unwrap.result = let q : Ok a.es ≡ Ok c.unwrap.result = sym a.wanted_is ∙ c.unwrap.ensures in cc in
    let h = subst (λ z. Found c.args.records.now z.now c.read_under.new.found (length c.args.area.now) a.cs) e a.found_all in
    let p = finished k.R k.format k.wanted k.area k.records (a.answered (c.give.ensures.list a.cs h) (c.give.ensures.texts a.cs h)) in
    record { answers = p.answers; values = p.values; texts = p.texts; number = p.number; place = p.place; records = p.records; starred = p.starred }
