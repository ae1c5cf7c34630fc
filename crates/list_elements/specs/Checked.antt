-- Row 6 as the code answers it: the elements of a good list, or the bad element. (Nothing here need be believed: no public call's
-- contract speaks of it.)
-- Assumes nothing.
use Rattle.std.specs.Prelude.{◌≡◌, Bool, List, map, ℕ, Result, Ok, Err, take}
use Rattle.std.specs.Borrow.{Bor}
use Rattle.list_elements.specs.Elements.{value_of}
use Rattle.list_elements.specs.Limits.{ListCheck, good, check_list}
use Rattle.list_elements.specs.declared.Value.{Value}
use Rattle.list_elements.specs.declared.Element.{Element}
use Rattle.list_elements.specs.declared.BadElement.{BadElement}
use Rattle.list_elements.specs.declared.List as carried
use Rattle.list_elements.specs.declared.listed.Listed.{Listed}

-- the elements before the count, where the values pass a test
abbrev pub CheckedAs : (Value → Bool) → carried.List → Result (Bor (List Element)) BadElement → Type 0
CheckedAs passes l (Ok es) = (check_list passes l ≡ good) × (es.now ≡ take l.count l.elements)
CheckedAs passes l (Err e) = check_list passes l ≡ Err e

-- the values of listed elements
abbrev pub values_in : Listed → List Value
values_in l = map value_of l.elements.now

-- the elements with these values of a list that has this check, and the area in which their texts lie
abbrev pub listed_as : ListCheck → List Value → List ℕ → Result Listed BadElement → Type 0
listed_as check vs area (Ok x) = (check ≡ good) × (values_in x ≡ vs) × (x.area.now ≡ area)
listed_as check vs area (Err e) = check ≡ Err e
