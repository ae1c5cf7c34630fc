-- A value of a list, as it is printed.
use Rattle.std.specs.Prelude.{List, ◌++◌, ℕ, true, false, codes, decimal}
use Rattle.std.specs.Fmt.{signed_decimal}
use Rattle.list_elements.specs.declared.Value.{Value}
use Rattle.list_elements.specs.declared.Value.TheVariants.{Integer, Decimal, Logical, Text}

abbrev pub shown : Value → List ℕ
shown (Integer n) = codes "I " ++ signed_decimal n
shown (Decimal d) = codes "D " ++ signed_decimal d.units ++ codes " " ++ decimal d.places
shown (Logical true) = codes "L T"
shown (Logical false) = codes "L F"
shown (Text t) = codes "A " ++ decimal t.start ++ codes " " ++ decimal t.len
