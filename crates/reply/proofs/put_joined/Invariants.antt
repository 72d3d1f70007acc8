-- `reply::put_joined` meets its contract. The invariant: the bytes so far are written, and there is room for all.
use mathlib.Core.Path.{◌≡◌}
use mathlib.Core.Bool.{false}
use Prim.Native.Nat.{◌+◌, ◌*◌, ◌≤◌}
use lib.ListN.{length, take}
use Rattle.wire.specs.Put.{Put}
use Rattle.reply.specs.Reply.{further_hex}
use Rattle.reply.proofs.put_joined.Given as goal

abbrev pub invariant-loop-byte : goal.invariant-loop-byte
invariant-loop-byte l = record {
  place : l.to ≡ l.at + 2 * l.byte-index;
  room : l.at + 2 * length l.bytes ≤ length l.initial.out;
  written : Put l.initial.out l.at (further_hex false (take l.byte-index l.bytes)) l.to l.out;
}
