-- `hex_text::hex_pair` meets its contract: each digit is below 16.
use native.Mathlib.Omega.{arith}
use mathlib.Core.Path.{sym}
use Rattle.hex_text.proofs.ReadLaws.{below_at, digit_small}
use Rattle.hex_text.proofs.hex_pair.Goals as goal

pub overflow_mul-result : goal.overflow_mul-result
overflow_mul-result c = omega (arith, below_at 16 (digit_small _) (sym c.in_ok-high.ensures))

pub overflow_add-result : goal.overflow_add-result
overflow_add-result c =
    omega (
      arith,
      below_at 16 (digit_small _) (sym c.in_ok-high.ensures),
      below_at 16 (digit_small _) (sym c.in_ok-low.ensures),
    )
