use Rattle.std.proofs.Common.{◌≡◌, refl, sym, ◌∙◌, ◌≤◌}
use Rattle.std.specs.Prelude.{Ok}
use Rattle.list_text.specs.ListText.{line_read}
use Rattle.sheet_text.proofs.TextLaws.{read_ok, read_few, read_within, read_values}
use Rattle.sheet_text.proofs.writing.listed.Goals as goal

pub shared_ref_as_front-result : goal.shared_ref_as_front-result
shared_ref_as_front-result c =
    let e : Ok c.in-Ok.list ≡ line_read c.args.text.now = sym c.in-Ok.is ∙ c.requires in
    let h : c.in-Ok.list.count ≤ 64 = read_few c.args.text.now e in
    h

pub invariant_of-result : goal.invariant_of-result
invariant_of-result c =
    let e : Ok c.in-Ok.list ≡ line_read c.args.text.now = sym c.in-Ok.is ∙ c.requires in
    record { within = read_within c.args.text.now e refl }

pub returns-in-Ok : goal.returns-in-Ok
returns-in-Ok c =
    let e : Ok c.in-Ok.list ≡ line_read c.args.text.now = sym c.in-Ok.is ∙ c.requires in
    ((read_ok c.args.text.now e).0, read_values c.args.text.now e refl, refl)
