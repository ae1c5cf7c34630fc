use Rattle.std.proofs.Common.{◌<◌, arith, rules}
use Rattle.format_words.proofs.PackingLaws.{word_made}
use Rattle.format_words.proofs.packed.Packed.made.Goals as goal

pub returns : goal.returns
returns c =
    let n : c.args.columns < 65536 = search rules in
    word_made _ _ _ (omega (arith, c.from.ensures, c.from-2.ensures)) n c.requires.1
