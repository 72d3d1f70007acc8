-- The shape can fail: a text that has it is read back as its lines, byte by byte, and the texts of wrong servers are not.
use mathlib.Core.Path.{◌≡◌, refl}
use mathlib.Core.Bool.{Bool, true, false, cond, ◌||◌}
use mathlib.Core.List.{List, [], ◌∷◌, ◌++◌}
use mathlib.Core.Option.{Option, none, some}
use Prim.Native.Nat.{ℕ}
use lib.Dec.{eqb}
use Rattle.wire.specs.Text.{ascii, any}
use Rattle.wire.proofs.Cases.{from_no, or_none_lem}
use Rattle.shape.specs.Datasheet.{breaks_line, ending, Framed, prompt, line_then, fills, data_form}

-- the prompt, with nothing after it
abbrev last : List ℕ → Option (List (List ℕ))
last [] = some []
last (c ∷ s) = none

-- a line's end before some lines, and a byte that joins the first of them; the last one is empty
abbrev ends : Option (List (List ℕ)) → Option (List (List ℕ))
ends none = none
ends (some ls) = some ([] ∷ ls)

abbrev joins : ℕ → Option (List (List ℕ)) → Option (List (List ℕ))
joins c none = none
joins c (some []) = none
joins c (some (l ∷ [])) = none
joins c (some (l ∷ m ∷ ls)) = some ((c ∷ l) ∷ m ∷ ls)

-- the lines of a text, the empty one before the prompt too, by whether an LF is due next
abbrev read_back : Bool → Bool → List ℕ → Option (List (List ℕ))
read_back linefeeds due [] = none
read_back linefeeds true (c ∷ s) = cond (eqb c 0x0A) (read_back linefeeds false s) none
read_back linefeeds false (c ∷ s) =
    cond (eqb c 0x3E) (last s)
    (cond (eqb c 0x0D) (ends (read_back linefeeds linefeeds s))
    (cond (eqb c 0x0A) none (joins c (read_back linefeeds false s))))

-- lines, and the empty one after them
abbrev closed : List (List ℕ) → List (List ℕ)
closed ls = ls ++ ([] ∷ [])

joins-first : (c : ℕ) (l : List ℕ) (ls : List (List ℕ)) → joins c (some (l ∷ closed ls)) ≡ some ((c ∷ l) ∷ closed ls)
joins-first c l [] = refl
joins-first c l (m ∷ ls) = refl

line_back : (linefeeds : Bool) (l rest : List ℕ) (ls : List (List ℕ)) → any breaks_line l ≡ false → read_back linefeeds false rest ≡ some (closed ls) →
    read_back linefeeds false (l ++ (ending linefeeds ++ rest)) ≡ some (l ∷ closed ls)
line_back true [] rest ls p q = rw q
line_back false [] rest ls p q = rw q
line_back linefeeds (c ∷ l) rest ls p q =
    let (here, more) = or_none_lem (breaks_line c) (any breaks_line l) p in
    let (cr, others) = or_none_lem (eqb c 0x0D) (eqb c 0x0A || eqb c 0x3E) here in
    let (lf, mark) = or_none_lem (eqb c 0x0A) (eqb c 0x3E) others in
    rw (mark, cr, lf, line_back linefeeds l rest ls more q) (joins-first c l ls)

framed_back : (linefeeds : Bool) {ls : List (List ℕ)} {text : List ℕ} → Framed linefeeds ls text → read_back linefeeds false text ≡ some (closed ls)
framed_back true prompt = refl
framed_back false prompt = refl
framed_back linefeeds (line_then l ls rest p f) = line_back linefeeds l rest ls p (framed_back linefeeds f)

-- a text that no lines are sent as
abbrev pub Misframed : Bool → List ℕ → Type 0
Misframed linefeeds text = (ls : List (List ℕ)) → Framed linefeeds ls text → ⊥

misframed : (linefeeds : Bool) (text : List ℕ) → read_back linefeeds false text ≡ none → Misframed linefeeds text
misframed linefeeds text q ls f = from_no (let r = framed_back linefeeds f in cc)

-- ---- one text for each kind of fault

pub lf_cr : Misframed true (ascii "OK\n\r\n\r>")
lf_cr = misframed true _ refl

pub no_linefeed : Misframed true (ascii "OK\r\r>")
no_linefeed = misframed true _ refl

pub no_empty_line : Misframed false (ascii "OK\r>")
no_empty_line = misframed false _ refl

pub no_prompt : Misframed false (ascii "OK\r\r")
no_prompt = misframed false _ refl

pub after_prompt : Misframed false (ascii "OK\r\r> ")
after_prompt = misframed false _ refl

pub small_letter : fills (data_form true false 2) (ascii "41 0c") ≡ false
small_letter = refl

pub no_space : fills (data_form true true 2) (ascii "7E8 02 410C") ≡ false
no_space = refl

pub other_length : fills (data_form true true 2) (ascii "7E8 03 41 0C") ≡ false
other_length = refl
