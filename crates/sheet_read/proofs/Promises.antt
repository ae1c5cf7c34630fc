-- The theorems on reading that specs/Promises.antt states.
-- Assumes nothing.
use mathlib.Core.Path.{◌≡◌, refl, sym, ap, subst, ◌∙◌}
use mathlib.Core.List.{List, [], ◌∷◌, map}
use Prim.Native.Nat.{ℕ, zero, suc, ◌+◌, ◌≤◌}
use native.Mathlib.Omega.{arith}
use lib.ListN.{length, take, drop}
use lib.Seq.{take-append_seam, drop-append_seam}
use Rattle.buffer.specs.Splice.{splice}
use Rattle.buffer.proofs.SpliceBytes.{length_splice}
use Rattle.format_items.specs.Items.{Items}
use Rattle.list_elements.specs.Elements.{kind_of, values, most_elements}
use Rattle.list_elements.specs.Limits.{may_be_wanted, first_failing, over_limit, check_values, wanted_check}
use Rattle.list_elements.specs.Contents.{Content, content_kind, texts_of, laid_texts, values_from, list_of, bytes_of}
use Rattle.list_elements.specs.declared.Value.{Value}
use Rattle.list_elements.specs.declared.List as carried
use Rattle.list_elements.proofs.ContentLaws.{kind_from_content, values_list, values_length}
use Rattle.list_elements.proofs.Promises.{gives_contents, zero_past}
use Rattle.sheet_walk.specs.Walk.{Trace}
use Rattle.read_passes.proofs.GatheredLaws.{gathers_ends, gathers_readable}
use Rattle.read_passes.proofs.OrderLaws.{gathers_fields, fields_gather}
use Rattle.sheet_walk.specs.Answers.{answer_number, answer_place, answer_records, answer_starred}
use Rattle.sheet_read.specs.Reading.{Reading, accepts, answer_of, list_given, area_of}
use Rattle.sheet_read.specs.Promises.{Call, kinds_of, becomes, KindsOnly, Walks, walk_of, AcceptableCall, AnsweredBy, AlwaysAnswered, AnsweredOnly, RefusedSo, MetInOrder, GivenInOrder, AcceptsExactly, AcceptedSo}
use Rattle.sheet_read.proofs.Calls.{Came, came, GathersOn}
use Rattle.sheet_read.proofs.Answering.{passes, meets_only}
use Rattle.sheet_read.proofs.Accepted.{puts_all, as_many, few_contents, contents_kinds, texts_room}

-- ---- the list and the text area given

values_kinds : (at : ℕ) (cs : List Content) → map kind_of (values_from at cs) ≡ map content_kind cs
unfolding values_from
values_kinds at [] = refl
values_kinds at (c ∷ cs) = rw (kind_from_content at c, values_kinds (at + length (bytes_of c)) cs)

count_given : (cs : List Content) → (list_of (values_from 0 cs)).count ≡ length cs
unfolding list_of
count_given cs = values_length 0 cs

length_laid : (area : List ℕ) (cs : List Content) → length (texts_of cs) ≤ length area → length (laid_texts area cs) ≡ length area
unfolding laid_texts
length_laid area cs h = length_splice area 0 (texts_of cs) (omega arith)

drop_laid : (area : List ℕ) (cs : List Content) → drop (length (texts_of cs)) (laid_texts area cs) ≡ drop (length (texts_of cs)) area
unfolding laid_texts splice
drop_laid area cs =
    let z : 0 + length (texts_of cs) ≡ length (texts_of cs) = omega arith in
    drop-append_seam (texts_of cs) (drop (0 + length (texts_of cs)) area) ∙ ap (λ (i : ℕ). drop i area) z

take_laid : (area : List ℕ) (cs : List Content) → take (length (texts_of cs)) (laid_texts area cs) ≡ texts_of cs
unfolding laid_texts splice
take_laid area cs = take-append_seam (texts_of cs) (drop (0 + length (texts_of cs)) area)

-- ---- only the kinds matter

take_kinds : (n : ℕ) (vs : List Value) → map kind_of (take n vs) ≡ take n (map kind_of vs)
take_kinds zero vs = refl
take_kinds (suc n) [] = refl
take_kinds (suc n) (v ∷ vs) = rw (take_kinds n vs)

-- row 6 has the same answer
first_alike : (at : ℕ) (vs ws : List Value) → map kind_of vs ≡ map kind_of ws → first_failing may_be_wanted at vs ≡ first_failing may_be_wanted at ws
unfolding first_failing
first_alike at [] [] e = refl
first_alike at [] (w ∷ ws) e = let z : ◌≡◌ {A = ℕ} 0 1 = cc in absurd (omega arith)
first_alike at (v ∷ vs) [] e = let z : ◌≡◌ {A = ℕ} 0 1 = cc in absurd (omega arith)
first_alike at (v ∷ vs) (w ∷ ws) e =
    let k : kind_of v ≡ kind_of w = cc in
    let r : map kind_of vs ≡ map kind_of ws = cc in
    rw (k, first_alike (at + 1) vs ws r)

check_alike : (l m : carried.List) → l.count ≡ m.count → map kind_of (values l) ≡ map kind_of (values m) → wanted_check l ≡ wanted_check m
unfolding check_values
check_alike l m n e =
    let k : map kind_of (take most_elements (values l)) ≡ map kind_of (take most_elements (values m)) =
    take_kinds most_elements (values l) ∙ ap (take most_elements) e ∙ sym (take_kinds most_elements (values m)) in
    ap (over_limit most_elements l.count) (first_alike 0 (take most_elements (values l)) (take most_elements (values m)) k)
    ∙ ap (λ (i : ℕ). over_limit most_elements i (first_failing may_be_wanted 0 (take most_elements (values m)))) n

pub kinds_only : KindsOnly
kinds_only c d width format records count kinds long =
    rw (width, format, records, check_alike c.wanted d.wanted count kinds, kinds, long)

-- ---- which row answers

-- contents gathered on its walk make a call acceptable
passed : (c : Call) {xs : Items} {cs : List Content} {n : ℕ} → Walks c xs → GathersOn c (walk_of c xs) cs n → AcceptableCall c (walk_of c xs) n
passed c {xs} w g = record { xs = xs; walks = w; is = refl; ends = gathers_ends g; readable = gathers_readable g }

pub always_answered : AlwaysAnswered
always_answered c = go (came c)
  where
    go : {r : Reading} → Came c r → AnsweredBy c (answer_number (answer_of r)) (answer_place (answer_of r))
    go (Came.accepted w g) = AnsweredBy.acceptable (passed c w g)
    go (Came.refused r) = r

pub answered_only : AnsweredOnly
answered_only c k p a = meets_only c a

pub refused_so : RefusedSo
refused_so c why e = (
  ap (λ r. answer_number (answer_of r)) e,
  ap (λ r. answer_place (answer_of r)) e,
  ap (λ r. answer_records (answer_of r)) e,
  ap (λ r. answer_starred (answer_of r)) e,
  ap list_given e,
  ap (area_of c.area) e,
)

-- ---- what an accepted reading gives

-- an accepted call has passed every row, and its contents are gathered on its walk
pub record Taken (c : Call) (cs : List Content) (n : ℕ) : Type 0 where
  pub t : Trace
  pub acceptable : AcceptableCall c t n
  pub gathers : GathersOn c t cs n

taken : (c : Call) (cs : List Content) (n : ℕ) → becomes c ≡ accepts cs n → Taken c cs n
taken c cs n e = go (subst (Came c) e (came c))
  where
    go : {cs : List Content} {n : ℕ} → Came c (accepts cs n) → Taken c cs n
    go (Came.accepted {xs} w g) = record { t = walk_of c xs; acceptable = passed c w g; gathers = g }

pub met_in_order : MetInOrder
met_in_order c t n a = puts_all a

given_in_order : (c : Call) (cs : List Content) (n : ℕ) → Taken c cs n → GivenInOrder c cs n
given_in_order c cs n r =
    let a = r.acceptable in
    let long = as_many a r.gathers in
    record {
      t = r.t;
      accepted = a;
      as_many = long;
      field = gathers_fields cs 0 (length (kinds_of c)) r.gathers refl (puts_all a) (omega arith);
    }

accepts_given : (c : Call) (cs : List Content) (n : ℕ) → GivenInOrder c cs n → becomes c ≡ accepts cs n
accepts_given c cs n g = passes c g.t cs n g.accepted (fields_gather cs 0 (length (kinds_of c)) g.accepted.ends (puts_all g.accepted) (omega arith) g.field)

pub accepts_exactly : AcceptsExactly
accepts_exactly c cs n = (λ e. given_in_order c cs n (taken c cs n e), accepts_given c cs n)

pub accepted_so : AcceptedSo
accepted_so c cs n e =
    let r = taken c cs n e in
    let a = r.acceptable in
    let few = few_contents a r.gathers in
    let room = texts_room a r.gathers in
    let l = ap list_given e in
    let m = ap (area_of c.area) e in
    record {
      records = ap (λ r. answer_records (answer_of r)) e;
      starred = ap (λ r. answer_starred (answer_of r)) e;
      count = rw l (count_given cs);
      contents = rw (l, m) (gives_contents c.area cs few room);
      kinds = rw (l, values_list (values_from 0 cs)) (values_kinds 0 cs ∙ contents_kinds a r.gathers);
      placed = rw l (values_list (values_from 0 cs));
      all_places = rw l (zero_past (values_from 0 cs) (rw values_length few)).0;
      past = λ i other low high. rw l ((zero_past (values_from 0 cs) (rw values_length few)).1 i other (rw values_length low) high);
      texts = rw m (take_laid c.area cs);
      long = rw m (length_laid c.area cs room);
      bytes_after = rw m (drop_laid c.area cs);
    }
