-- Laws of a line decoded: the turns of the loops that read it, and how large it can be.
use mathlib.Core.Path.{◌≡◌, refl, sym, ap, ◌∙◌}
use mathlib.Core.Bool.{Bool, true, false, not}
use mathlib.Core.List.{List, [], ◌∷◌, ◌++◌, append-nil, append_assoc}
use mathlib.Core.Option
use mathlib.Core.Option.{Option, none, some}
use Prim.Native.Nat.{ℕ, suc, ◌+◌, ◌*◌, ◌≤◌, ◌<◌}
use native.Mathlib.Numerals.{add-one}
use native.Mathlib.Omega.{arith}
use lib.Dec.{eqb, ltb}
use lib.ListN.{length, take, drop, get_or, set, length-append, length-take, length-drop}
use lib.Seq.{take-suc-set, take_all, length-take-le}
use borrow.Author.Tests.{lt-ltb, le-ltb, ltb-false}
use Rattle.wire.specs.Put.{Put}
use Rattle.wire.proofs.PutLaws.{put_rest, put_whole_lem, put_front}
use Rattle.wire.specs.Text.{without_nulls}
use Rattle.wire.proofs.PassingLaws.{passing-length}
use Rattle.wire.proofs.Cases.{by_test}
use Rattle.hex_text.specs.Read.{hex_number, kept, pair_bytes}
use Rattle.wire.proofs.All.{All, all_append}
use Rattle.hex_text.proofs.ReadLaws.{Below, number_small, plus_bad}
use Rattle.line_list.specs.Lines.{Line, line}
use Rattle.reply_lines.specs.Lines.{characters}
use Rattle.reply_lines.specs.Decode.{text_line, DecodedAs}
use Rattle.reply_lines.specs.declared.Decoded.{Decoded}

-- ---- the pairs of a line: the first of them, and the others
pub pairs_step : {out left o₁ : List ℕ} {at r e : ℕ} (line rest behind : List ℕ) {a b : ℕ} → Put out at (pair_bytes (characters line)) r left → characters line ≡ a ∷ characters rest → characters rest ≡ b ∷ characters behind →
    Put out at (kept (hex_number (a ∷ b ∷ []))) e o₁ → Put o₁ e (pair_bytes (characters behind)) r left
pairs_step line rest behind p first second q = put_rest (rw (first, second) at p) q

-- ---- the first characters: one more
pub head_step : (text head rest : List ℕ) (i c : ℕ) {s : List ℕ} → i < length head → characters text ≡ take i head ++ characters rest → characters rest ≡ c ∷ s →
    characters text ≡ take (i + 1) (set head i c) ++ s
head_step text head rest i c {s} h q e =
    q
    ∙ ap (λ (l : List ℕ). take i head ++ l) e
    ∙ sym (append_assoc (take i head) (c ∷ []) s)
    ∙ rw (add-one i, take-suc-set head i c h)

-- ---- the line of a text: unframed, too short to be framed, and framed

pub line_unframed : (text : List ℕ) → text_line false text ≡ line 0 (pair_bytes (characters text))
unfolding text_line
line_unframed text = refl

pub line_short : (text : List ℕ) → length (characters text) < 5 → text_line true text ≡ line 0 (characters text)
unfolding text_line
line_short text h = rw (lt-ltb (length (characters text)) 5 h)

pub line-framed : (text chars rest : List ℕ) → characters text ≡ chars ++ rest → length chars ≡ 5 →
    text_line true text ≡ line (suc (Option.get_or (hex_number (get_or chars 0 0 ∷ get_or chars 1 0 ∷ get_or chars 2 0 ∷ [])) 0)) (pair_bytes rest)
unfolding text_line
line-framed text [] rest q h = absurd (omega arith)
line-framed text (a ∷ []) rest q h = absurd (omega arith)
line-framed text (a ∷ b ∷ []) rest q h = absurd (omega arith)
line-framed text (a ∷ b ∷ c ∷ []) rest q h = absurd (omega arith)
line-framed text (a ∷ b ∷ c ∷ d ∷ []) rest q h = absurd (omega arith)
line-framed text (a ∷ b ∷ c ∷ d ∷ e ∷ []) rest q h = rw (q, le-ltb (length (a ∷ b ∷ c ∷ d ∷ e ∷ rest)) 5 (omega arith))
line-framed text (a ∷ b ∷ c ∷ d ∷ e ∷ f ∷ s) rest q h = absurd (omega arith)

-- document 02 §4: "the id becomes 000", which is known, and the pairs are read as they stand
pub line_plus : (text s t : List ℕ) → 5 ≤ length (characters text) → take 3 (characters text) ≡ s ++ (43 ∷ t) →
    text_line true text ≡ line 1 (pair_bytes (drop 5 (characters text)))
unfolding text_line
line_plus text s t h e = rw (le-ltb (length (characters text)) 5 h, e, plus_bad s t)

-- by its first characters, where none is left and where there are five
module _ (text head left : List ℕ) (i : ℕ) (five : length head ≡ 5) (p : characters text ≡ take i head ++ characters left) where
  pub head_short : i < 5 → characters left ≡ [] → text_line true text ≡ line 0 (take i head)
  head_short k e =
      let q : characters text ≡ take i head = p ∙ ap (λ (l : List ℕ). take i head ++ l) e ∙ append-nil (take i head) in
      line_short text (omega (arith, ap length q, length-take i head)) ∙ rw q

  pub head_framed : 5 ≤ i → text_line true text ≡ line (suc (Option.get_or (hex_number (get_or head 0 0 ∷ get_or head 1 0 ∷ get_or head 2 0 ∷ [])) 0)) (pair_bytes (characters left))
  head_framed k =
      let t : take i head ≡ head = take_all i head (omega arith) in
      line-framed text head (characters left) (p ∙ rw t) five

-- ---- how large a line is

-- what holds of the three forms of a line holds of the line
by_form : (P : Line → Type 0) (framing : Bool) (text : List ℕ) → P (line 0 (pair_bytes (characters text))) → P (line 0 (characters text)) →
    (5 ≤ length (characters text) → P (line (suc (Option.get_or (hex_number (take 3 (characters text))) 0)) (pair_bytes (drop 5 (characters text))))) → P (text_line framing text)
unfolding text_line
by_form P false text pairs chars framed = pairs
by_form P true text pairs chars framed =
    by_test (ltb (length (characters text)) 5)
    (λ e. rw e chars)
    (λ e. rw e (framed (ltb-false (length (characters text)) 5 e)))

pub characters-length : (s : List ℕ) → length (characters s) ≤ length s
characters-length s = omega (arith, passing-length (λ c. not (eqb c 32)) (without_nulls s), passing-length (λ c. not (eqb c 0)) s)

kept-length : (o : Option ℕ) → length (kept o) ≤ 1
kept-length none = omega arith
kept-length (some n) = omega arith

-- two characters give a byte at most
pub pairs_half : (s : List ℕ) → 2 * length (pair_bytes s) ≤ length s
pairs_half [] = omega arith
pairs_half (a ∷ []) = omega arith
pairs_half (a ∷ b ∷ s) =
    omega (arith, length-append (kept (hex_number (a ∷ b ∷ []))) (pair_bytes s), kept-length (hex_number (a ∷ b ∷ [])), pairs_half s)

-- its data are no longer than its text
pub data_fits : (framing : Bool) (text : List ℕ) → length (text_line framing text).bytes ≤ length text
data_fits framing text =
    let s = characters text in
    by_form (λ l. length l.bytes ≤ length text) framing text
    (omega (arith, pairs_half s, characters-length text))
    (characters-length text)
    (λ h. omega (arith, pairs_half (drop 5 s), length-drop 5 s, characters-length text))

-- ECU+1 is at most 4096
pub line_ecu : (framing : Bool) (text : List ℕ) → (text_line framing text).ecu ≤ 4096
line_ecu framing text =
    let s = characters text in
    by_form (λ l. l.ecu ≤ 4096) framing text (omega arith) (omega arith)
    (λ h. id_small (hex_number (take 3 s)) (rw (length-take-le 3 s (omega arith)) at (number_small (take 3 s))))
  where
    id_small : (o : Option ℕ) → Below 4096 o → suc (Option.get_or o 0) ≤ 4096
    id_small none b = omega arith
    id_small (some n) b = omega arith

-- its data are bytes when its characters are
kept_bytes : (o : Option ℕ) → Below 256 o → All (λ c. c < 256) (kept o)
kept_bytes none b = tt
kept_bytes (some n) b = (b, tt)

pairs_bytes : (s : List ℕ) → All (λ c. c < 256) (pair_bytes s)
pairs_bytes [] = tt
pairs_bytes (a ∷ []) = tt
pairs_bytes (a ∷ b ∷ s) =
    all_append (λ c. c < 256) (kept (hex_number (a ∷ b ∷ []))) (pair_bytes s) (kept_bytes (hex_number (a ∷ b ∷ [])) (number_small (a ∷ b ∷ []))) (pairs_bytes s)

-- a buffer that has room for a line's data has them at its front
pub decoded_bytes : {l : Line} {buffer left : List ℕ} {r : Decoded} → DecodedAs l buffer r left → length l.bytes ≤ length buffer → (r.len ≡ length l.bytes) × (take r.len left ≡ l.bytes)
decoded_bytes {l} {buffer} {left} {r} d h =
    (omega (arith, put_whole_lem d.bytes (omega arith)), put_front d.bytes ∙ take_all (length buffer) l.bytes h)
