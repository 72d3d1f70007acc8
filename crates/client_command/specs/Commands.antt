-- Document 01, client_session.rs: "Raw command: CR added unless it ends in one. .. When complete, ATH1 sets framing, ATH0 or ATZ clears it: exact text in any
-- case, whatever the reply said. `ATH1` with its own CR does not count." "Initialisation: ATZ, one piece dropped, then ATE0, ATL0, ATS0, ATSP0, and ATH1 or
-- ATH0."
use Rattle.std.specs.Prelude.{Bool, cond, ◌||◌, List, [], ◌∷◌, ◌++◌, map, ℕ, ◌-◌, eqb, length, get_or}
use Rattle.wire.specs.Text.{ascii, same, raised}
use Rattle.client_command.specs.declared.FramingEffect.{FramingEffect}
use Rattle.client_command.specs.declared.FramingEffect.TheVariants as effect

-- a raw command's text, by its last byte
abbrev pub with_cr : List ℕ → List ℕ
with_cr s = cond (eqb (get_or s (length s - 1) 0) 13) s (s ++ (13 ∷ []))

-- the command in capitals, compared whole
abbrev pub is_command : List ℕ → List ℕ → Bool
is_command command text = same (map raised command) text

unfoldable pub framing_effect : List ℕ → FramingEffect
framing_effect command =
    cond (is_command command (ascii "ATH1")) effect.On
    (cond (is_command command (ascii "ATH0") || is_command command (ascii "ATZ")) effect.Off effect.Kept)

-- the commands of the initialisation after ATZ, by their place; the last is for framing on or off
abbrev pub setup_text : Bool → ℕ → List ℕ
setup_text framing k = get_or (ascii "ATE0\r" ∷ ascii "ATL0\r" ∷ ascii "ATS0\r" ∷ ascii "ATSP0\r" ∷ []) k (cond framing (ascii "ATH1\r") (ascii "ATH0\r"))
