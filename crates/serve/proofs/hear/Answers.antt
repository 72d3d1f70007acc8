-- What is to be sent stands inside the buffer, and the bytes taken inside the input.
use mathlib.Core.Path.{◌≡◌, sym}
use mathlib.Core.List.{List}
use Prim.Native.Nat.{ℕ, ◌≤◌, ◌<◌}
use native.Mathlib.Omega.{arith}
use borrow.Author.Rules.{rules}
use lib.Dec.{lit≤}
use lib.ListN.{length, replicate}
use lib.Seq.{length-take-le}
use Rattle.server_session.specs.declared.ServerStep.{ServerStep}
use Rattle.server_session.specs.Session.{Session, session}
use Rattle.server_session.specs.Bytes.{bytes_say}
use Rattle.server_session.specs.Call.{server_answer, server_step, server_lent}
use Rattle.server_session.proofs.BytesLaws.{bytes_written}
use Rattle.serve.specs.Serve.{dealt_with, serve_says}
use Rattle.serve.proofs.ServeLaws.{hear_dealt, serve_written}
use Rattle.serve.proofs.hear.Goals as goal

abbrev Heard : Session → List ℕ → ServerStep → List ℕ → Type 0
Heard s input r left = server_step r left ≡ server_lent (bytes_say 1024 s input) (replicate 1024 0)

taken : (s : Session) (input : List ℕ) (r : ServerStep) (left : List ℕ) → length input ≤ 128 → Heard s input r left → r.taken ≤ 128
taken s input r left h e = let w = bytes_written s input (replicate 1024 0) left r e in omega (arith, w.1)

written : (s : Session) (input : List ℕ) (r : ServerStep) (left : List ℕ) → length left ≡ 1024 → Heard s input r left → r.written ≤ length left
written s input r left h e = let w = bytes_written s input (replicate 1024 0) left r e in omega (arith, w.0)

dealt-some : (s : Session) (input : List ℕ) (r : ServerStep) (left : List ℕ) (n : ℕ) → 0 < length input → Heard s input r left →
    n ≡ dealt_with (server_answer r.answer) r.taken → (0 < n) × (n ≤ length input)
dealt-some s input r left n h e is = rw is (hear_dealt s input (replicate 1024 0) left r (lit≤ tt) h e)

said : (s : Session) (out left : List ℕ) (r : ServerStep) → length left ≡ length out → server_step r left ≡ server_lent (serve_says (length out) s) out → r.written ≤ length left
said s out left r h e = omega (arith, serve_written s out left r e)

pub slice_bounds-out-end : goal.slice_bounds-out-end
slice_bounds-out-end g c = written (session c.args.server) c.args.input.now _ _ (search rules) c.bytes-heard.ensures.out_after

pub slice_bounds-write_all-end : goal.slice_bounds-write_all-end
slice_bounds-write_all-end g c = sym (length-take-le _ _ (written (session c.args.server) c.args.input.now _ _ (search rules) c.bytes-heard.ensures.out_after))

pub dealt-taken-requires : goal.dealt-taken-requires
dealt-taken-requires g c = taken (session c.args.server) c.args.input.now _ _ c.requires.1 c.bytes-heard.ensures.out_after

pub slice_bounds-out-end-2 : goal.slice_bounds-out-end-2
slice_bounds-out-end-2 g c = said (session c.bytes-heard.result.session) c.bytes-heard.new.out _ _ (search rules) c.respond-said.ensures

pub slice_bounds-write_all-end-2 : goal.slice_bounds-write_all-end-2
slice_bounds-write_all-end-2 g c = sym (length-take-le _ _ (said (session c.bytes-heard.result.session) c.bytes-heard.new.out _ _ (search rules) c.respond-said.ensures))

pub returns-then-echoed : goal.returns-then-echoed
returns-then-echoed g c = dealt-some (session c.args.server) c.args.input.now _ _ _ c.requires.0 c.bytes-heard.ensures.out_after c.dealt-taken.ensures

pub returns-else-echoed : goal.returns-else-echoed
returns-else-echoed g c = dealt-some (session c.args.server) c.args.input.now _ _ _ c.requires.0 c.bytes-heard.ensures.out_after c.dealt-taken.ensures
