use mathlib.Core.Path.{◌≡◌}
use native.Mathlib.Omega.{arith}
use Rattle.std.specs.Prelude.{Some, slice_get}
use Rattle.std.proofs.lemmas.Grind.{common_steps}
use Rattle.std.proofs.lemmas.Option.{gets, slice_get_within, get_or_from_slice_get}
use Rattle.format_read.proofs.SingleSteps.{SP-read, SS-read, S-alone}
use Rattle.format_read.proofs.singles.read_setting.Goals as goal

pub returns-in-Some-eq80 : goal.returns-in-Some-eq80
returns-in-Some-eq80 c =
    let s = c.args.text.now in
    let is : slice_get s c.args.at ≡ Some 80 = grind (arith, common_steps, gets) in
    rw c.setting.ensures (λ o. SP-read o (slice_get_within s c.args.at 80 is) (get_or_from_slice_get s c.args.at 80 0 is))

pub returns-in-Some-eq83 : goal.returns-in-Some-eq83
returns-in-Some-eq83 c =
    let s = c.args.text.now in
    let is : slice_get s c.args.at ≡ Some 83 = grind (arith, common_steps, gets) in
    rw c.setting-in-Some-eq83.ensures (λ o. SS-read o (slice_get_within s c.args.at 83 is) (get_or_from_slice_get s c.args.at 83 0 is))

pub returns-in_default : goal.returns-in_default
returns-in_default c =
    rw c.setting-in_default.ensures (λ o. S-alone o c.requires (λ h e. grind (arith, common_steps, gets)) (λ h e. grind (arith, common_steps, gets)))
