use Rattle.list_elements.proofs.LimitLaws.{bytes_in}
use Rattle.list_elements.proofs.Text.bytes_in.Goals as goal

pub returns : goal.returns
returns c =
    let rest = c.in_ok-get.ensures.lookup in
    bytes_in c.args.area.now c.args.self rest.0.2 rest.0.3 c.get-2.result c.get-2.ensures.lookup
