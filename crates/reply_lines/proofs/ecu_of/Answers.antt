-- `reply_lines::ecu_of` meets its contract: an id is below 4096, so one more than it fits.
use Rattle.std.proofs.Common.{[], ◌∷◌, sym, arith}
use Rattle.hex_text.proofs.ReadLaws.{number_small, below_at}
use Rattle.reply_lines.proofs.ecu_of.Goals as goal

pub overflow_add-result : goal.overflow_add-result
overflow_add-result c =
    record {
      fits = let k = below_at 4096 (number_small (c.args.a ∷ c.args.b ∷ c.args.c ∷ [])) (sym c.in-Some.ensures) in omega arith;
    }
