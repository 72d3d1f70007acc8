-- Laws of the vehicle: its lines are those of its parameters one after the other, and how long they are at most.
use mathlib.Core.Path.{◌≡◌, refl}
use mathlib.Core.Bool.{Bool, true, false, cond}
use mathlib.Core.List.{List, [], ◌∷◌, ◌++◌, append-nil}
use Prim.Native.Nat.{ℕ, ◌+◌, ◌/◌, ◌%◌, ◌≤◌}
use native.Mathlib.Omega.{arith}
use lib.ListN.{length, take, drop, length-append}
use Rattle.wire.specs.Put.{Put}
use Rattle.wire.specs.Text.{ascii, begins}
use Rattle.wire.proofs.PutLaws.{put_then}
use Rattle.hex_text.specs.Digits.{hex_digit, hex_byte}
use Rattle.group.specs.Group.{group_bytes}
use Rattle.line_list.specs.Lines.{line_format, lines_bytes}
use Rattle.serve.specs.Vehicle.{Parameter, parameter_line, parameters, asks_for, lines_for, vehicle}

-- the text of a query by its characters
pub query-text : (command : List ℕ) (p : ℕ) {a b : ℕ} → a ≡ hex_digit (p / 16 % 16) → b ≡ hex_digit (p % 16) →
    begins command (48 ∷ 49 ∷ a ∷ b ∷ []) ≡ begins command (ascii "01" ++ hex_byte p)
query-text command p e f = rw (e, f)

module _ (command : List ℕ) where
  -- the lines of the first parameter, and then the others'
  lines_more : (p : Parameter) (ps : List Parameter) → lines_bytes (lines_for command (p ∷ [])) ++ lines_bytes (lines_for command ps) ≡ lines_bytes (lines_for command (p ∷ ps))
  lines_more p ps = go (asks_for command p.pid)
    where
      go : (asked : Bool) → lines_bytes (cond asked (parameter_line p ∷ []) []) ++ lines_bytes (lines_for command ps) ≡
          lines_bytes (cond asked (parameter_line p ∷ lines_for command ps) (lines_for command ps))
      go true = rw append-nil
      go false = refl

  -- so writers of the one and of the others follow one another
  pub put_more : {out o₁ o₂ : List ℕ} {at a e : ℕ} (ps : List Parameter) →
      Put out at (lines_bytes (lines_for command (take 1 ps))) a o₁ → Put o₁ a (lines_bytes (lines_for command (drop 1 ps))) e o₂ → Put out at (lines_bytes (lines_for command ps)) e o₂
  put_more [] f r = put_then f r
  put_more (p ∷ ps) f r = rw (lines_more p ps) at (put_then f r)

  -- the lines of all parameters
  abbrev all_size : List Parameter → ℕ
  all_size [] = 0
  all_size (p ∷ ps) = length (line_format.write (parameter_line p)) + all_size ps

  lines_size_lem : (ps : List Parameter) → length (lines_bytes (lines_for command ps)) ≤ all_size ps
  lines_size_lem [] = omega arith
  lines_size_lem (p ∷ ps) = go (asks_for command p.pid) (lines_size_lem ps)
    where
      w : List ℕ
      w = line_format.write (parameter_line p)

      go : (asked : Bool) → length (lines_bytes (lines_for command ps)) ≤ all_size ps →
          length (lines_bytes (cond asked (parameter_line p ∷ lines_for command ps) (lines_for command ps))) ≤ length w + all_size ps
      go true h = omega (arith, length-append w (lines_bytes (lines_for command ps)))
      go false h = omega arith

  pub vehicle_size : length (lines_bytes (vehicle command)) ≤ 80
  unfolding vehicle group_bytes
  vehicle_size = let h : length (lines_bytes (lines_for command parameters)) ≤ 67 = lines_size_lem parameters in omega arith
