-- The vehicle that `serve` plays: one ECU, 7E8, that knows a few PIDs of SAE J1979. Its values stand still.
use Rattle.std.specs.Prelude.{Bool, false, cond, ◌&&◌, ◌||◌, List, [], ◌∷◌, ◌++◌, ℕ, zero, suc, ◌+◌, ◌^◌, eqb, leb, length}
use Rattle.wire.specs.Text.{ascii, begins}
use Rattle.hex_text.specs.Digits.{hex_byte}
use Rattle.line_list.specs.Lines.{Line, line}

-- A PID and its data bytes.
pub record Parameter : Type 0 where
  pub pid : ℕ
  pub bytes : List ℕ

abbrev pub parameter : ℕ → List ℕ → Parameter
parameter p d = record { pid = p; bytes = d }

abbrev pub measured : List Parameter
measured =
    parameter 0x01 (0x00 ∷ 0x07 ∷ 0xE5 ∷ 0x00 ∷ []) ∷  -- monitor status: lamp off, no trouble codes
    parameter 0x04 (0x40 ∷ []) ∷  -- calculated load: 25 %
    parameter 0x05 (0x7B ∷ []) ∷  -- coolant temperature: 83 °C
    parameter 0x0B (0x2D ∷ []) ∷  -- intake manifold pressure: 45 kPa
    parameter 0x0C (0x1A ∷ 0xF8 ∷ []) ∷  -- engine speed: 1,726 revolutions a minute
    parameter 0x0D (0x20 ∷ []) ∷  -- vehicle speed: 32 km/h
    parameter 0x0E (0x90 ∷ []) ∷  -- timing advance: 8 degrees
    parameter 0x0F (0x46 ∷ []) ∷  -- intake air temperature: 30 °C
    parameter 0x11 (0x2E ∷ []) ∷  -- throttle position: 18 %
    []

abbrev pub knows : List Parameter → ℕ → Bool
knows [] p = false
knows (m ∷ ms) p = eqb m.pid p || knows ms p

-- n PIDs from p on as the low bits of a byte, the first as the highest of them: set where it is known
abbrev pub known_bits : List Parameter → ℕ → ℕ → ℕ
known_bits ms p zero = 0
known_bits ms p (suc n) = cond (knows ms p) (2 ^ n) 0 + known_bits ms (suc p) n

-- PID 00: a bit for each of the next 32 PIDs
abbrev pub parameters : List Parameter
parameters =
    parameter 0x00 (known_bits measured 0x01 8 ∷ known_bits measured 0x09 8 ∷ known_bits measured 0x11 8 ∷ known_bits measured 0x19 8 ∷ []) ∷ measured

-- a query for one PID: 01, the PID's digits, and at most one character more, whatever it is: readers put the number of lines that they await there
abbrev pub asks_for : List ℕ → ℕ → Bool
asks_for command p = leb (length command) 5 && begins command (ascii "01" ++ hex_byte p)

-- from ECU 7E8, which is 7E8+1 in a line: 41, the PID and its data
abbrev pub parameter_line : Parameter → Line
parameter_line p = line 0x7E9 (0x41 ∷ p.pid ∷ p.bytes)

abbrev pub lines_for : List ℕ → List Parameter → List Line
lines_for command [] = []
lines_for command (p ∷ ps) = cond (asks_for command p.pid) (parameter_line p ∷ lines_for command ps) (lines_for command ps)

-- the lines that a command is answered with: none, so NO DATA, where no PID of the vehicle is asked for
unfoldable pub vehicle : List ℕ → List Line
vehicle command = lines_for command parameters
