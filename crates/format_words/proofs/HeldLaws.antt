-- Entries that hold items: after one another, and with further characters.
-- Assumes nothing.
use Rattle.std.proofs.Common.{◌≡◌, refl, sym, ap, ◌∙◌, subst, List, ◌++◌, append_assoc, ℕ, ◌+◌, ◌≤◌, arith, take, drop}
use lib.Seq.{take-take}
use Rattle.std.proofs.lemmas.List.{drop-take}
use Rattle.format_items.specs.Items.{Items, join}
use Rattle.format_items.specs.Met.{Met}
use Rattle.format_words.specs.Words.{met_of, RunWord}
use Rattle.format_words.specs.Packing.{word_in}
use Rattle.format_words.specs.declared.Word.{Word}
use Rattle.format_words.specs.declared.Word.TheVariants as word
use Rattle.format_words.specs.declared.Entry.{Entry}
use Rattle.format_words.specs.Held.{First, Holds}

-- ---- one after the other

pub first_join : {xs next : Items} {r : ℕ} {k : Met} (ys : Items) → First xs r k next → First (join xs ys) r k (join next ys)
unfolding join
first_join ys First.field = First.field
first_join ys First.X = First.X
first_join ys First.T = First.T
first_join ys First.slash = First.slash
first_join ys First.literal = First.literal
first_join ys First.setting = First.setting

pub holds_join : {t : List ℕ} {c l : ℕ} {es fs : List Entry} {xs ys : Items} → Holds t c l es xs → Holds t c l fs ys → Holds t c l (es ++ fs) (join xs ys)
unfolding join
holds_join Holds.none k = k
holds_join {ys} (Holds.item f s h) k = Holds.item (first_join ys f) s (holds_join h k)
holds_join {fs} (Holds.group {one} {two} n r e h j) k = Holds.group n r (ap (λ l. l ++ fs) e ∙ append_assoc one two fs) h (holds_join j k)

-- ---- kept

-- a part of the first c, which stay
pub slice_kept : {A : Type 0} (a b c : ℕ) (t u : List A) → a + b ≤ c → take c u ≡ take c t → take b (drop a u) ≡ take b (drop a t)
slice_kept a b c t u h e =
    sym (drop-take a b u)
    ∙ ap (drop a) (sym (take-take (a + b) c u h) ∙ ap (take (a + b)) e ∙ take-take (a + b) c t h)
    ∙ drop-take a b t

pub met_kept : (w : Word) (c : ℕ) (t u : List ℕ) → RunWord c w → take c u ≡ take c t → met_of u w ≡ met_of t w
met_kept (word.I w) c t u h e = refl
met_kept (word.F w d) c t u h e = refl
met_kept (word.L w) c t u h e = refl
met_kept word.A c t u h e = refl
met_kept (word.Aw w) c t u h e = refl
met_kept (word.X n) c t u h e = refl
met_kept (word.T n) c t u h e = refl
met_kept word.Slash c t u h e = refl
met_kept (word.Literal a n) c t u h e = ap Met.literal (slice_kept a n c t u h e)
met_kept (word.Setting k) c t u h e = refl

-- further characters may change
pub holds_kept : {t u : List ℕ} {c d l : ℕ} {es : List Entry} {xs : Items} → Holds t c l es xs → take c u ≡ take c t → c ≤ d → Holds u d l es xs
holds_kept Holds.none q h = Holds.none
holds_kept {t} {u} {c} (Holds.item {r} {w} {xs} {next} f s rest) q h =
    Holds.item (subst (λ (x : Met). First xs r x next) (sym (met_kept (word_in w) c t u s q)) f) (omega arith) (holds_kept rest q h)
holds_kept (Holds.group n r e inside rest) q h = Holds.group n r e (holds_kept inside q h) (holds_kept rest q h)
