-- What the readers of a format find, as steps of the reading of its text. Contracts of this crate cite it, no promise does.
-- Assumes nothing.
use Rattle.std.specs.Prelude.{◌≡◌, false, ◌&&◌, cond, List, [], ◌∷◌, ◌++◌, ℕ, ◌+◌, ◌-◌, ◌<◌, ◌≤◌, ltb, length, get_or, take, drop, Option, Some, None, unwrap_or, Result, Ok, Err}
use Rattle.number.specs.Digits.{is_digit}
use Rattle.format_grammar.specs.Characters.{opening_bracket, apostrophe, quotation_mark}
use Rattle.format_items.specs.Items.{number, value_of, Repeat, absent, given, times, Items, join}
use Rattle.format_items.specs.Ranges.{Ranged, ranged, outside, place, repeat_numbers, numbers}
use Rattle.format_grammar.specs.Reading.{Use, Mode, Open, State, Reading, wanted, written, read_at}
use Rattle.format_words.specs.Words.{met_of, reach}
use Rattle.format_words.specs.Packing.{detail_of}
use Rattle.format_words.specs.declared.Word.{Word}
use Rattle.format_words.specs.declared.Word.TheVariants as word
use Rattle.format_words.specs.declared.Entry.{Entry}
use Rattle.format_words.specs.Held.{First, Holds}
use Rattle.format_read.specs.declared.Position.{Position}
use Rattle.format_read.specs.declared.Ungrammatical.{Ungrammatical}
use Rattle.format_read.specs.declared.Found.{Found}
use Rattle.format_read.specs.declared.Single.{Single}
use Rattle.format_read.specs.declared.Literal.{Literal}
use Rattle.format_read.specs.declared.Head.{Head}
use Rattle.format_read.specs.declared.Head.TheVariants as head

-- ---- numbers

-- the number that begins at an offset, if its value was found
abbrev pub number_at : ℕ → Option ℕ → Repeat
number_at at None = absent
number_at at (Some v) = given (number at v)

-- the digits from `at` up to `next`, three at most and no more to be had, make the value; none where there is no digit
pub record NumberFound (s : List ℕ) (at : ℕ) (value : Option ℕ) (next : ℕ) : Type 0 where
  pub runs : (u : Use) (l : ℕ) (xs : Items) (q : Open) → read_at s at (State.within (Mode.digits u at 0) l xs q) ≡ read_at s next (State.within (Mode.digits u at (unwrap_or value 0)) l xs q)
  pub stops : next < length s → (ltb next (at + 3) && is_digit (get_or s next 0)) ≡ false
  pub number_is : written at next (unwrap_or value 0) ≡ number_at at value
  pub small : unwrap_or value 0 < 1000
  pub low : at ≤ next
  pub high : next ≤ length s

-- the offset of the first number out of range, if there is one: after one number more, and after more numbers
abbrev pub keep_first : Option ℕ → Ranged → Option ℕ
keep_first (Some p) n = Some p
keep_first None n = cond (outside n) (Some (place n)) None

unfoldable pub outside_after : Option ℕ → List Ranged → Option ℕ
outside_after o [] = o
outside_after o (n ∷ ns) = outside_after (keep_first o n) ns

-- a number from 1 to `high` that is there; none
abbrev pub found : List ℕ → ℕ → ℕ → Option ℕ → Option ℕ → Result Found Ungrammatical → Type 0
found s at high o o' (Ok x) = NumberFound s at (Some x.value) x.next × (o' ≡ keep_first o (ranged (number at x.value) 1 high))
found s at high o o' (Err e) = NumberFound s at None e.place

-- ---- items that are neither groups nor literals

-- every number is below 1,000
abbrev pub AllSmall : List Ranged → Type 0
AllSmall [] = Unit
AllSmall (ranged n low high ∷ ns) = (value_of n < 1000) × AllSmall ns

-- from the mode m at a, an item was read up to `next`, which is not before `least`; its numbers but for ns, which come
-- first, were looked at; its repeat is below 1,000 if ns are
pub record ItemRead (s : List ℕ) (a : ℕ) (m : Mode) (ns : List Ranged) (least : ℕ) (o : Option ℕ) (w : Word) (r next : ℕ) (o' : Option ℕ) : Type 0 where
  pub item : Items
  pub late : List Ranged
  pub first : (t : List ℕ) → First item r (met_of t w) Items.none
  pub runs : (l : ℕ) (xs : Items) (q : Open) → read_at s a (State.within m l xs q) ≡ read_at s next (State.within Mode.after l (join xs item) q)
  pub no_literal : (start n : ℕ) → w ≡ word.Literal start n → ⊥
  pub no_characters : reach w ≡ 0
  pub small : detail_of w < 4096
  pub few : AllSmall ns → r < 1000
  pub numbers_are : numbers item ≡ ns ++ late
  pub outside_is : o' ≡ outside_after o late
  pub more : least ≤ next
  pub high : next ≤ length s

-- no item goes on from the mode m at a, whatever the levels, because of the byte at p
abbrev pub Stuck : List ℕ → ℕ → Mode → ℕ → Type 0
Stuck s a m p = (l : ℕ) (xs : Items) (q : Open) → read_at s a (State.within m l xs q) ≡ Reading.wrong p

-- an item, or none
abbrev pub item_read : List ℕ → ℕ → Mode → List Ranged → ℕ → Option ℕ → Option ℕ → Result Single Ungrammatical → Type 0
item_read s a m ns least o o' (Ok x) = ItemRead s a m ns least o x.word x.repeat x.next o'
item_read s a m ns least o o' (Err e) = Stuck s a m e.place

-- an item that begins before `at` and ends with what a letter, whose use is u, asks for
abbrev pub ended : List ℕ → ℕ → Use → Repeat → Option ℕ → Option ℕ → Result Single Ungrammatical → Type 0
ended s at u k o o' x = item_read s at (Mode.digits u at 0) (repeat_numbers k) at o o' x

-- a byte that begins neither a group nor a literal
pub record NoBracketOrMark (b : ℕ) : Type 0 where
  pub no_bracket : b ≡ opening_bracket → ⊥
  pub no_apostrophe : b ≡ apostrophe → ⊥
  pub no_quotation_mark : b ≡ quotation_mark → ⊥

-- ---- literals

-- after the mark m before `at` a literal was read up to `next`, and its characters stand in u from c up to `end`
pub record LiteralFound (s : List ℕ) (at m : ℕ) (t : List ℕ) (c : ℕ) (u : List ℕ) (next end : ℕ) : Type 0 where
  pub characters : List ℕ
  pub runs : (l : ℕ) (xs : Items) (q : Open) → read_at s at (State.within (Mode.inside m []) l xs q) ≡ read_at s next (State.within Mode.after l (join xs (Items.literal characters Items.none)) q)
  pub are : take end u ≡ take c t ++ characters
  pub end_is : end ≡ c + length characters
  pub more : at < next
  pub room : end < next
  pub high : next ≤ length s

-- a literal, or none
abbrev pub literal_found : List ℕ → ℕ → ℕ → List ℕ → ℕ → List ℕ → Result Literal Ungrammatical → Type 0
literal_found s at m t c u (Ok x) = LiteralFound s at m t c u x.next x.end
literal_found s at m t c u (Err e) = Stuck s at (Mode.inside m []) e.place

-- ---- items with their entries

-- the entries from n up to m
abbrev pub between : ℕ → ℕ → List Entry → List Entry
between n m es = take (m - n) (drop n es)

-- from the mode m at p, items were read up to the state `to` at p', in the same text; their entries and characters were added
-- to a and t
pub record Took (l : ℕ) (m : Mode) (to : ℕ → Items → Open → State) (p : Position) (a : List Entry) (t : List ℕ) (p' : Position) (b : List Entry) (u : List ℕ) : Type 0 where
  pub items : Items
  pub runs : (xs : Items) (q : Open) → read_at p.text.now p.at (State.within m l xs q) ≡ read_at p.text.now p'.at (to l (join xs items) q)
  pub holds : Holds u p'.chars l (between p.entries p'.entries b) items
  pub entries_kept : take p.entries b ≡ take p.entries a
  pub chars_kept : take p.chars u ≡ take p.chars t
  pub outside_is : p'.outside ≡ outside_after p.outside (numbers items)
  pub same_text : p'.text ≡ p.text
  pub more : p.at < p'.at
  pub more_entries : p.entries ≤ p'.entries
  pub more_chars : p.chars ≤ p'.chars

-- where l levels may open, no item goes on from `at`, because of the byte at x
abbrev pub NoItem : List ℕ → ℕ → ℕ → ℕ → Type 0
NoItem s l at x = (xs : Items) (q : Open) → read_at s at (State.within (wanted at) l xs q) ≡ Reading.wrong x

-- items, or none
abbrev pub took : ℕ → (ℕ → Items → Open → State) → Position → List Entry → List ℕ → Position → List Entry → List ℕ → Result Unit Ungrammatical → Type 0
took l to p a t p' b u (Ok _) = Took l (wanted p.at) to p a t p' b u
took l to p a t p' b u (Err e) = NoItem p.text.now l p.at e.place

-- a group opens, with the repeat k of r
pub record Opened (l : ℕ) (p inside : Position) (r : ℕ) (a : List Entry) (t : List ℕ) (b : List Entry) (u : List ℕ) : Type 0 where
  pub k : Repeat
  pub repeats : times k ≡ r
  pub runs : (xs : Items) (q : Open) → read_at p.text.now p.at (State.within (wanted p.at) l xs q) ≡ read_at p.text.now inside.at (State.within (wanted inside.at) (l - 1) Items.none (Open.group xs k q))
  pub outside_is : inside.outside ≡ outside_after p.outside (repeat_numbers k)
  pub same_entries : b ≡ a
  pub same_chars : u ≡ t
  pub same_text : inside.text ≡ p.text
  pub entries_are : inside.entries ≡ p.entries + 1
  pub chars_are : inside.chars ≡ p.chars
  pub deep : 0 < l
  pub few : r < 1000
  pub more : p.at < inside.at

-- an item, the opening of a group, or neither
abbrev pub headed : ℕ → Position → List Entry → List ℕ → Position → List Entry → List ℕ → Result Head Ungrammatical → Type 0
headed l p a t p' b u (Ok head.Whole) = Took l (wanted p.at) (State.within Mode.after) p a t p' b u
headed l p a t p' b u (Ok (head.Group r)) = Opened l p p' r a t b u
headed l p a t p' b u (Err e) = NoItem p.text.now l p.at e.place
