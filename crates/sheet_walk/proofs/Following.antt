-- What the code's walk does at each item: what is left of it, and that it comes to an end.
-- Assumes nothing.
use Rattle.std.proofs.Common.{◌≡◌, refl, sym, ap, subst, ◌∙◌, true, false, List, [], ◌∷◌, ℕ, zero, suc, ◌+◌, ◌*◌, ◌<◌, ◌≤◌, arith, length, take, drop, get_or, length-drop}
use lib.Seq.{length-take-le}
use Rattle.std.specs.Prelude.{Result, Ok, Err}
use Rattle.std.proofs.lemmas.List.{length-map, get_or_default}
use Rattle.std.proofs.lemmas.List.Elements.{All-get_or}
use borrow.Author.Tests.{le-leb, lt-leb}
use lib.ListN.{get_or-map}
use Rattle.settings.specs.Settings.{set_by}
use Rattle.settings.specs.declared.SettingItem.{SettingItem}
use Rattle.format_items.specs.Items.{Field}
use Rattle.format_items.specs.Met.{Met}
use Rattle.format_items.specs.MetRanges.{MetWithin, AllMetWithin}
use Rattle.format_items.proofs.MetWithinLaws.{drop_within}
use Rattle.format_words.specs.Words.{met_of, met_in, RunPacked}
use Rattle.format_words.specs.Packing.{word_in, columns_in}
use Rattle.format_words.specs.declared.packed.Packed.{Packed}
use Rattle.format_words.specs.declared.Word.{Word}
use Rattle.format_words.specs.declared.Word.TheVariants as word
use Rattle.list_elements.specs.Elements.{Kind}
use Rattle.sheet_walk.specs.declared.Refusal.{Refusal}
use Rattle.sheet_walk.specs.declared.Refusal.TheVariants as refusal
use Rattle.sheet_walk.specs.declared.State.{State}
use Rattle.sheet_walk.specs.declared.Cover.{Cover}
use Rattle.sheet_walk.specs.declared.walk.Walk.{Walk}
use Rattle.sheet_walk.specs.declared.walk.Turn.{Turn}
use Rattle.sheet_walk.specs.declared.walk.Turn.TheVariants as turn
use Rattle.sheet_walk.specs.Steps.{with_settings, Records, What, element, literal, Placement, Step, moves, covers, refused, ends, cover_step, field_step, x_step, t_step, next_record, step, has_field, end_step}
use Rattle.sheet_walk.specs.Walk.{Sheet, put, done, stopped, after}
use Rattle.sheet_walk.specs.Promises.{Walkable}
use Rattle.sheet_walk.specs.Laid.{offset_of}
use Rattle.sheet_walk.specs.Given.{items_of, KeepsLiteral, Keeps, takes, fields_of}
use Rattle.sheet_walk.specs.Followed.{sheet_of, left_of, SameSheet, MovesAs, CoversAs, AnswersAs, turns_left, turns_of, MovesNext, CoversNext, TurnIs}
use Rattle.sheet_walk.proofs.StepLaws.{CoveredBy, Covered, Does, step_does, AtEnd, end_does}
use Rattle.sheet_walk.proofs.Covering.{Stands, covered_inside}
use Rattle.sheet_walk.proofs.Windows.{inside_room}
use Rattle.sheet_walk.proofs.Keeping.{field_kept, literal_kept, field_takes, literal_takes}
use Rattle.sheet_walk.proofs.Turns.{walk_at, item_at, item_turn, item_less, end_turn, end_less}

pub within_at : (xs : List Met) (i : ℕ) → AllMetWithin xs → MetWithin (get_or xs i Met.slash)
within_at [] i h = tt
within_at (x ∷ xs) zero h = h.0
within_at (x ∷ xs) (suc i) h = within_at xs i h.1

-- a literal covers as many columns as it has characters
literal_wide : (kinds : List Kind) (cs : List ℕ) (s : State) (w : ℕ) (what : What) → CoveredBy kinds (Met.literal cs) s w what → w ≡ length cs
literal_wide kinds cs s w (element i f) by = let e = by.0 in let z : ⊥ = cc in absurd z
literal_wide kinds cs s w (literal ds) by = let e = by.0 in let z : ds ≡ cs = cc in by.1 ∙ ap length z

-- ---- a walk, and where it stands

module _ (w : Walk) where
  abbrev pub h : Sheet
  h = sheet_of w

  walkable : Walkable h
  walkable = record { items_within = w.run.within; part_within = drop_within (items_of w.run) w.run.back w.run.within; some_record = omega (arith, w.in_record) }

  stands : Stands h w.state
  stands = record { few = rw length-map w.few; to = w.to; from = λ _. w.from; in-records = λ _. w.in_record }

  -- another walk that goes by the same
  module _ (v : Walk) (same : SameSheet w v) where
    pub sheets : sheet_of v ≡ sheet_of w
    sheets = rw (same.run, same.elements, same.records)

    pub left_is : {i : ℕ} → v.index ≡ i → left_of v ≡ walk_at h i v.state
    left_is e = ap (λ k. walk_at k v.index v.state) sheets ∙ ap (λ j. walk_at h j v.state) e

    pub turns_are : {i : ℕ} → v.index ≡ i → turns_of v ≡ turns_left h i v.state
    turns_are e = ap (λ k. turns_left k v.index v.state) sheets ∙ ap (λ j. turns_left h j v.state) e

  -- ---- at an item

  module _ (x : Word) (d : Packed) (i : w.index < length w.run.words.now) (is : word_in (get_or w.run.words.now w.index d) ≡ x) where
    inside : w.index < length h.items
    inside = rw length-map i

    item_is : item_at h w.index ≡ met_of w.run.chars.now x
    item_is = get_or_default (items_of w.run) w.index Met.slash (met_in w.run.chars.now d) inside ∙ get_or-map (met_in w.run.chars.now) w.run.words.now w.index d ∙ ap (met_of w.run.chars.now) is

    abbrev pub the_step : Step
    the_step = step h.kinds h.records (met_of w.run.chars.now x) w.state

    left_after : left_of w ≡ after the_step w.state (walk_at h (w.index + 1))
    left_after = item_turn h w.index w.state inside ∙ ap (λ y. after (step h.kinds h.records y w.state) w.state (walk_at h (w.index + 1))) item_is

    does : Does h.kinds h.records (met_of w.run.chars.now x) w.state the_step
    does = step_does h.kinds h.records w.state (met_of w.run.chars.now x)

    moves_on : fields_of (met_of w.run.chars.now x) ≡ 0 → (v : Walk) → SameSheet w v → v.index ≡ w.index + 1 → MovesAs the_step (Ok tt) v.state → MovesNext w v
    moves_on none v same e = go the_step does left_after
      where
        go : (st : Step) → Does h.kinds h.records (met_of w.run.chars.now x) w.state st → left_of w ≡ after st w.state (walk_at h (w.index + 1)) → MovesAs st (Ok tt) v.state → MovesNext w v
        go (moves n) d l m =
            let f : n.taken ≡ w.state.taken + fields_of (item_at h w.index) = d.0.takes ∙ ap (λ (y : Met). w.state.taken + fields_of y) (sym item_is) in
            record {
              left = l ∙ sym (left_is v same e ∙ ap (walk_at h (w.index + 1)) m.1);
              same = same;
              taken = omega (arith, ap (λ z. z.taken) m.1, d.0.takes, none);
              fewer = rw (turns_are v same e, m.1) (item_less h w.index w.state inside n f);
            }
        go (covers p n) d l m = absurd m
        go (refused why) d l m = let z : ⊥ = cc in absurd z
        go ends d l m = absurd m

    -- as the answer r of a step says, where the item is no field
    pub item_moves : fields_of (met_of w.run.chars.now x) ≡ 0 → (v : Walk) → SameSheet w v → v.index ≡ w.index + 1 → {st : Step} → st ≡ the_step → {r : Result Unit Refusal} → r ≡ Ok tt → MovesAs st r v.state → MovesNext w v
    item_moves none v same e {st} g q m = moves_on none v same e (subst (λ z. MovesAs z (Ok tt) v.state) g (subst (λ z. MovesAs st z v.state) q m))

    pub item_refused : (why : Refusal) (s : State) {st : Step} → st ≡ the_step → {r : Result Unit Refusal} → r ≡ Err why → MovesAs st r s → left_of w ≡ stopped why
    item_refused why s {st} g q m = go the_step left_after (subst (λ z. MovesAs z (Err why) s) g (subst (λ z. MovesAs st z s) q m))
      where
        go : (st : Step) → left_of w ≡ after st w.state (walk_at h (w.index + 1)) → MovesAs st (Err why) s → left_of w ≡ stopped why
        go (moves n) l m = let e = m.0 in let z : ⊥ = cc in absurd z
        go (covers p n) l m = absurd m
        go (refused y) l m = l ∙ (let z : y ≡ why = cc in ap stopped z)
        go ends l m = absurd m

    -- v is left of the walk after the columns of p, which c keeps
    module _ (v : Walk) (same : SameSheet w v) (e : v.index ≡ w.index + 1) where
      covers_on : (p : Placement) (n : State) (c : Cover) → Covered h.kinds h.records (met_of w.run.chars.now x) w.state p n → left_of w ≡ put p (walk_at h (w.index + 1) n) → v.state ≡ n
          → c.at ≡ offset_of h.records.width p → columns_in c.word ≡ p.width → c.settings ≡ w.state.settings → Keeps w.run.chars.now h.kinds w.state.taken p.width c.word p.what → takes c.word ≡ fields_of (met_of w.run.chars.now x)
          → CoversNext w v c
      covers_on p n c d l q at wide under keeps many =
          let i = covered_inside h (met_of w.run.chars.now x) w.state n p h.records.count stands d walkable w.in_record in
          let r : offset_of h.records.width p + p.width ≤ h.records.count * h.records.width = inside_room h.records.width h.records.count p i in
          let f : n.taken ≡ w.state.taken + fields_of (item_at h w.index) = d.moved.takes ∙ ap (λ (y : Met). w.state.taken + fields_of y) (sym item_is) in
          record {
            placement = p;
            left = l ∙ ap (put p) (sym (left_is v same e ∙ ap (walk_at h (w.index + 1)) q));
            same = same;
            is = record { at = at; width = wide; settings = under ∙ sym d.settings; what = keeps; room = rw (at, wide) r; few = omega (arith, wide, i.from, i.to, w.records.narrow) };
            taken = ap (λ z. z.taken) q ∙ d.moved.takes ∙ ap (λ z. w.state.taken + z) (sym many);
            fewer = rw (turns_are v same e, q) (item_less h w.index w.state inside n f);
          }

      -- a field, as the answer r of its step says
      pub field_answers : (f : Field ℕ) → met_of w.run.chars.now x ≡ Met.field f → (r : Result Turn Refusal) → {st : Step} → st ≡ the_step → AnswersAs h.records f w.state st r v.state → TurnIs w r v
      field_answers f y r g m = go the_step does left_after (subst (λ z. AnswersAs h.records f w.state z r v.state) g m)
        where
          go : (st : Step) → Does h.kinds h.records (met_of w.run.chars.now x) w.state st → left_of w ≡ after st w.state (walk_at h (w.index + 1)) → AnswersAs h.records f w.state st r v.state → TurnIs w r v
          go (moves n) d l m = absurd m
          go (covers p n) d l m =
              let within : MetWithin (Met.field f) = subst MetWithin (item_is ∙ y) (within_at h.items w.index w.run.within) in
              let keeps = field_kept w.run.chars.now h.kinds w.state p.width m.0.word f p.what (rw y at d.by) within m.2.keeps in
              rw m.1 (covers_on p n m.0 d l m.3 m.2.at m.2.keeps.wide (m.2.settings ∙ d.settings) keeps (field_takes m.2.keeps ∙ rw y refl))
          go (refused why) d l m = rw m l
          go ends d l m = rw (m.0, m.1) l

      -- a literal
      pub literal_answers : (cs : List ℕ) → met_of w.run.chars.now x ≡ Met.literal cs → {at : ℕ} (c : Cover) → c.at ≡ at → c.settings ≡ w.state.settings → KeepsLiteral w.run.chars.now c.word cs → columns_in c.word ≡ length cs
          → {st : Step} → st ≡ the_step → {r : Result ℕ Refusal} → r ≡ Ok at → CoversAs h.records st r v.state → TurnIs w (Ok (turn.Covers c)) v
      literal_answers cs y {at} c o under k wide {st} g q m = go the_step does left_after (subst (λ z. CoversAs h.records z (Ok at) v.state) g (subst (λ z. CoversAs h.records st z v.state) q m))
        where
          go : (st : Step) → Does h.kinds h.records (met_of w.run.chars.now x) w.state st → left_of w ≡ after st w.state (walk_at h (w.index + 1)) → CoversAs h.records st (Ok at) v.state → CoversNext w v c
          go (moves n) d l m = absurd m
          go (covers p n) d l m =
              let a = m.0 in
              let z : at ≡ offset_of h.records.width p = cc in
              let by : CoveredBy h.kinds (Met.literal cs) w.state p.width p.what = rw y at d.by in
              covers_on p n c d l m.1 (o ∙ z) (wide ∙ sym (literal_wide h.kinds cs w.state p.width p.what by)) under (literal_kept w.run.chars.now h.kinds w.state p.width c.word cs p.what by k) (literal_takes k ∙ rw y refl)
          go (refused why) d l m = let z : ⊥ = cc in absurd z
          go ends d l m = absurd m

      pub literal_refused : {why : Refusal} {st : Step} → st ≡ the_step → {r : Result ℕ Refusal} → r ≡ Err why → CoversAs h.records st r v.state → left_of w ≡ stopped why
      literal_refused {why} {st} g q m = go the_step left_after (subst (λ z. CoversAs h.records z (Err why) v.state) g (subst (λ z. CoversAs h.records st z v.state) q m))
        where
          go : (st : Step) → left_of w ≡ after st w.state (walk_at h (w.index + 1)) → CoversAs h.records st (Err why) v.state → left_of w ≡ stopped why
          go (moves n) l m = absurd m
          go (covers p n) l m = let a = m.0 in let z : ⊥ = cc in absurd z
          go (refused y) l m = l ∙ (let z : y ≡ why = cc in ap stopped z)
          go ends l m = absurd m

  -- ---- what the word of an item says

  module _ (d : Packed) (i : w.index < length w.run.words.now) where
    word_within : MetWithin (met_in w.run.chars.now (get_or w.run.words.now w.index d))
    word_within = subst MetWithin (item_is (word_in (get_or w.run.words.now w.index d)) d i refl) (within_at h.items w.index w.run.within)

    word_sound : RunPacked (length w.run.chars.now) (get_or w.run.words.now w.index d)
    word_sound = All-get_or (RunPacked (length w.run.chars.now)) w.run.words.now w.index d i w.run.sound

    -- the column of a T
    pub tab_from : {n : ℕ} → word_in (get_or w.run.words.now w.index d) ≡ word.T n → 1 ≤ n
    tab_from {n} e = let m : MetWithin (Met.T n) = rw e at word_within in m.0

    -- a literal has as many characters as its word says
    pub literal_length : {a n : ℕ} → word_in (get_or w.run.words.now w.index d) ≡ word.Literal a n → n ≡ length (take n (drop a w.run.chars.now))
    literal_length {a} {n} e =
        let m : a + n ≤ length w.run.chars.now = rw e at word_sound in
        sym (length-take-le n (drop a w.run.chars.now) (omega (arith, length-drop a w.run.chars.now)))

    -- which are those of the run
    pub literal_inside : {a n : ℕ} → word_in (get_or w.run.words.now w.index d) ≡ word.Literal a n → a + n ≤ length w.run.chars.now
    literal_inside {a} {n} e = rw e at word_sound

  -- ---- at the end of the format

  module _ (past : length w.run.words.now ≤ w.index) where
    past_items : length h.items ≤ w.index
    past_items = rw length-map past

    end_after : left_of w ≡ after (end_step h.kinds h.records h.part w.state) w.state (walk_at h w.run.back)
    end_after = end_turn h w.index w.state past_items w.run.back refl

    at_end : AtEnd h.kinds h.records w.state h.part (end_step h.kinds h.records h.part w.state)
    at_end = end_does h.kinds h.records w.state h.part

    -- to the part that the walk returns to
    pub end_moves : (v u : Walk) → SameSheet w v → u.state ≡ v.state → SameSheet w u → u.index ≡ w.run.back → {st : Step} → st ≡ end_step h.kinds h.records h.part w.state → {r : Result Unit Refusal} → r ≡ Ok tt → MovesAs st r v.state → MovesNext w u
    end_moves v u same q same_u i {st} g o m = go (end_step h.kinds h.records h.part w.state) at_end end_after (subst (λ z. MovesAs z (Ok tt) v.state) g (subst (λ z. MovesAs st z v.state) o m))
      where
        go : (st : Step) → AtEnd h.kinds h.records w.state h.part st → left_of w ≡ after st w.state (walk_at h w.run.back) → MovesAs st (Ok tt) v.state → MovesNext w u
        go (moves n) d l m =
            let t : n.taken ≡ w.state.taken = omega (arith, d.0.takes) in
            let k : u.state ≡ n = q ∙ m.1 in
            record {
              left = l ∙ sym (left_is u same_u i ∙ ap (walk_at h w.run.back) k);
              same = same_u;
              taken = ap (λ z. z.taken) k ∙ t;
              fewer = rw (turns_are u same_u i, k) (end_less h w.index w.state past_items w.run.back refl n t d.2 d.1);
            }
        go (covers p n) d l m = absurd m
        go (refused why) d l m = let z : ⊥ = cc in absurd z
        go ends d l m = absurd m

    pub end_refused : (why : Refusal) (s : State) {st : Step} → st ≡ end_step h.kinds h.records h.part w.state → {r : Result Unit Refusal} → r ≡ Err why → MovesAs st r s → left_of w ≡ stopped why
    end_refused why s {st} g q m = go (end_step h.kinds h.records h.part w.state) end_after (subst (λ z. MovesAs z (Err why) s) g (subst (λ z. MovesAs st z s) q m))
      where
        go : (st : Step) → left_of w ≡ after st w.state (walk_at h w.run.back) → MovesAs st (Err why) s → left_of w ≡ stopped why
        go (moves n) l m = let e = m.0 in let z : ⊥ = cc in absurd z
        go (covers p n) l m = absurd m
        go (refused y) l m = l ∙ (let z : y ≡ why = cc in ap stopped z)
        go ends l m = absurd m

    pub end_ends : length w.elements.now ≤ w.state.taken → left_of w ≡ done (w.state.row + 1)
    unfolding end_step
    end_ends e =
        let k : length h.kinds ≤ w.state.taken = rw length-map e in
        end_after ∙ rw (le-leb (length h.kinds) w.state.taken k)

    -- an element is left
    module _ (some : w.state.taken < length w.elements.now) where
      remains : w.state.taken < length h.kinds
      remains = rw length-map some

      pub end_no_field : w.returns ≡ false → left_of w ≡ stopped (refusal.NoField w.state.taken)
      unfolding end_step
      end_no_field e =
          let f : has_field h.part ≡ false = sym w.returns_is ∙ e in
          end_after ∙ rw (lt-leb (length h.kinds) w.state.taken remains, f)

      pub end_next : w.returns ≡ true → next_record h.records w.state ≡ end_step h.kinds h.records h.part w.state
      unfolding end_step
      end_next e =
          let f : has_field h.part ≡ true = sym w.returns_is ∙ e in
          rw (lt-leb (length h.kinds) w.state.taken remains, f)

-- ---- the steps by their words

module _ (kinds : List Kind) (rs : Records) (s : State) where
  pub X-step : {m n : ℕ} → m ≡ n → x_step rs s m ≡ step kinds rs (Met.X n) s
  unfolding step
  X-step e = ap (x_step rs s) e

  pub T-step : {m n : ℕ} → m ≡ n → t_step rs s m ≡ step kinds rs (Met.T n) s
  unfolding step
  T-step e = ap (t_step rs s) e

  -- of one that sets, as the code answers it
  pub set_moves : (k : SettingItem) {n : State} → n ≡ with_settings s (set_by k s.settings) → MovesAs (step kinds rs (Met.setting k) s) (Ok tt) n
  unfolding step
  set_moves k e = (refl, e)

  pub slash_step : next_record rs s ≡ step kinds rs Met.slash s
  unfolding step
  slash_step = refl

  pub field_is_step : (f : Field ℕ) → field_step rs s f (drop s.taken kinds) ≡ step kinds rs (Met.field f) s
  unfolding step
  field_is_step f = refl

  pub literal_step : (cs : List ℕ) {n : ℕ} → n ≡ length cs → cover_step rs s (literal cs) n s.taken ≡ step kinds rs (Met.literal cs) s
  unfolding step
  literal_step cs e = ap (λ n. cover_step rs s (literal cs) n s.taken) e

-- ---- walks that go by the same

pub same_as : (w v : Walk) → v.run ≡ w.run → v.elements ≡ w.elements → v.records ≡ w.records → SameSheet w v
same_as w v e f g = record { run = e; elements = f; records = g }

pub same_on : {u w v : Walk} → SameSheet u w → SameSheet w v → SameSheet u v
same_on a b = record { run = b.run ∙ a.run; elements = b.elements ∙ a.elements; records = b.records ∙ a.records }

-- ---- the word of a field

-- a word that is none of the others
pub field_word : (t : List ℕ) (x : Word) → ((n : ℕ) → x ≡ word.X n → ⊥) → ((n : ℕ) → x ≡ word.T n → ⊥) → (x ≡ word.Slash → ⊥) → ((a n : ℕ) → x ≡ word.Literal a n → ⊥) → ((k : SettingItem) → x ≡ word.Setting k → ⊥) → (f : Field ℕ) × (met_of t x ≡ Met.field f)
field_word t (word.I n) a b c d s = (Field.I n, refl)
field_word t (word.F n k) a b c d s = (Field.F n k, refl)
field_word t (word.L n) a b c d s = (Field.L n, refl)
field_word t word.A a b c d s = (Field.A, refl)
field_word t (word.Aw n) a b c d s = (Field.Aw n, refl)
field_word t (word.X n) a b c d s = absurd (a n refl)
field_word t (word.T n) a b c d s = absurd (b n refl)
field_word t word.Slash a b c d s = absurd (c refl)
field_word t (word.Literal k n) a b c d s = absurd (d k n refl)
field_word t (word.Setting k) a b c d s = absurd (s k refl)

module _ (w : Walk) where
  -- the step of a literal's word, for as many columns as it says
  pub literal_at : (d : Packed) → w.index < length w.run.words.now → {a n m : ℕ} → word_in (get_or w.run.words.now w.index d) ≡ word.Literal a n → m ≡ n
      → cover_step (sheet_of w).records w.state (literal (take n (drop a w.run.chars.now))) m w.state.taken ≡ step (sheet_of w).kinds (sheet_of w).records (Met.literal (take n (drop a w.run.chars.now))) w.state
  literal_at d i {a} {n} {m} e g = literal_step (sheet_of w).kinds (sheet_of w).records w.state (take n (drop a w.run.chars.now)) (g ∙ literal_length w d i e)

  -- the step of a field's word
  pub field_at : (x : Word) {f : Field ℕ} → met_of w.run.chars.now x ≡ Met.field f
      → field_step (sheet_of w).records w.state f (drop w.state.taken (sheet_of w).kinds) ≡ step (sheet_of w).kinds (sheet_of w).records (met_of w.run.chars.now x) w.state
  field_at x {f} e = field_is_step (sheet_of w).kinds (sheet_of w).records w.state f ∙ ap (λ y. step (sheet_of w).kinds (sheet_of w).records y w.state) (sym e)
