-- Document 01, server_session.rs: "An AT command updates the client settings it is lent, then is answered with the line ending now in force: text, ending,
-- ending, `>`; ATZ puts two endings first. Texts are those of `handle_at_command`. The text of ATI or AT@1 is one of the two lent identity strings".
use Rattle.std.specs.Prelude.{Bool, true, false, cond, List, [], ◌∷◌, ℕ}
use Prim.Native.String.{String}
use Rattle.wire.specs.Text.{ascii, same, begins}
use Rattle.client_state.specs.Settings.{Settings, fresh}
use Rattle.at_command.specs.declared.AtKind.{AtKind}
use Rattle.at_command.specs.declared.AtKind.TheVariants.{Reset, Set, Accepted, Identity, Voltage, Protocol, ProtocolNumber, Unknown}
use Rattle.at_command.specs.declared.Setting.TheVariants.{Echo, Linefeeds, Spaces, Headers}
use Rattle.at_command.specs.declared.IdentityText.{IdentityText}
use Rattle.at_command.specs.declared.IdentityText.TheVariants.{Ati, Device}

abbrev pub is_text : List ℕ → String → Bool
is_text c t = same c (ascii t)

abbrev pub starts_with : List ℕ → String → Bool
starts_with c t = begins c (ascii t)

-- the dialect: ATSP, ATST and ATAT match by their start, the others whole
unfoldable pub at_kind : List ℕ → AtKind
at_kind c =
    cond (is_text c "ATZ") Reset
    (cond (is_text c "ATE0") (Set Echo false)
    (cond (is_text c "ATE1") (Set Echo true)
    (cond (is_text c "ATL0") (Set Linefeeds false)
    (cond (is_text c "ATL1") (Set Linefeeds true)
    (cond (is_text c "ATS0") (Set Spaces false)
    (cond (is_text c "ATS1") (Set Spaces true)
    (cond (is_text c "ATH0") (Set Headers false)
    (cond (is_text c "ATH1") (Set Headers true)
    (cond (is_text c "ATRV") Voltage
    (cond (is_text c "ATDP") Protocol
    (cond (is_text c "ATDPN") ProtocolNumber
    (cond (starts_with c "ATSP") Accepted
    (cond (starts_with c "ATST") Accepted
    (cond (starts_with c "ATAT") Accepted
    (cond (is_text c "ATI") (Identity Ati)
    (cond (is_text c "AT@1") (Identity Device) Unknown))))))))))))))))

-- the settings after it: ATZ makes all fresh, the last command with them; a switch is turned on or off
abbrev pub kind_settings : AtKind → Settings → Settings
kind_settings Reset s = fresh
kind_settings (Set Echo on) s = record { echo = on; linefeeds = s.linefeeds; spaces = s.spaces; headers = s.headers; last = s.last }
kind_settings (Set Linefeeds on) s = record { echo = s.echo; linefeeds = on; spaces = s.spaces; headers = s.headers; last = s.last }
kind_settings (Set Spaces on) s = record { echo = s.echo; linefeeds = s.linefeeds; spaces = on; headers = s.headers; last = s.last }
kind_settings (Set Headers on) s = record { echo = s.echo; linefeeds = s.linefeeds; spaces = s.spaces; headers = on; last = s.last }
kind_settings Accepted s = s
kind_settings (Identity which) s = s
kind_settings Voltage s = s
kind_settings Protocol s = s
kind_settings ProtocolNumber s = s
kind_settings Unknown s = s

-- "one of the two lent identity strings, handed back without copying"
abbrev pub identity_of : {A : Type 0} → IdentityText → A → A → A
identity_of Ati ati device = ati
identity_of Device ati device = device

abbrev says : String → List (List ℕ)
says t = ascii t ∷ []

-- the lines of its answer, by the two lent identity strings: at a reset two empty ones come first
abbrev pub kind_lines : List ℕ → List ℕ → AtKind → List (List ℕ)
kind_lines ati device Reset = [] ∷ [] ∷ ati ∷ []
kind_lines ati device (Set setting on) = says "OK"
kind_lines ati device Accepted = says "OK"
kind_lines ati device (Identity which) = identity_of which ati device ∷ []
kind_lines ati device Voltage = says "12.6V"
kind_lines ati device Protocol = says "AUTO, ISO 15765-4 (CAN 11/500)"
kind_lines ati device ProtocolNumber = says "A6"
kind_lines ati device Unknown = says "?"
