-- `server_session::ServerSession::bytes` meets its contract.
use mathlib.Core.Path.{◌≡◌, refl, ◌∙◌}
use mathlib.Core.Bool.{true, false}
use native.Mathlib.Omega.{arith}
use borrow.Author.Rules.{rules}
use Rattle.server_session.specs.Session.{session, is_reading}
use Rattle.server_session.proofs.RunLaws.{run_turn, byte_turn, byte_stop, byte_refused, bytes_end}
use Rattle.server_session.proofs.ServerSession.bytes.Goals as goal

pub returns-then-input-i-clause-out_after : goal.returns-then-input-i-clause-out_after
returns-then-input-i-clause-out_after c =
    let loop = c.loop-i in
    let run = c.read_run-run in
    let led = run_turn c.args.input.now (session loop.self) loop.i loop.at loop.out loop.invariant.inside loop.invariant.there run.ensures.ran in
    rw c.step.ensures (bytes_end _ run.new.self c.args.input.now run.new.out run.result.next run.result.at c.if-input-i.true ∙ led.says ∙ loop.invariant.says)

pub returns-in-Err-clause-out_after : goal.returns-in-Err-clause-out_after
returns-in-Err-clause-out_after c =
    let loop = c.loop-i in
    let run = c.read_run-run in
    let led = run_turn c.args.input.now (session loop.self) loop.i loop.at loop.out loop.invariant.inside loop.invariant.there run.ensures.ran in
    rw c.step-in-Err.ensures
    (byte_refused c.args.input.now (session run.new.self) run.result.next run.result.at run.new.out led.inside c.if-input-i.false refl c.in-Err.ensures ∙ led.says ∙ loop.invariant.says)

pub returns-then-ne-clause-out_after : goal.returns-then-ne-clause-out_after
returns-then-ne-clause-out_after c =
    let loop = c.loop-i in
    let run = c.read_run-run in
    let led = run_turn c.args.input.now (session loop.self) loop.i loop.at loop.out loop.invariant.inside loop.invariant.there run.ensures.ran in
    let stops : is_reading c.take_byte.new.self.phase ≡ false = search rules in
    rw c.step-then-ne.ensures
    (byte_stop c.args.input.now (session run.new.self) run.result.next run.result.at run.new.out led.inside c.if-input-i.false c.take_byte.new.self c.in-Ok.ensures stops ∙
    led.says ∙
    loop.invariant.says)

pub loop-i-preserved : goal.loop-i-preserved
loop-i-preserved c =
    let loop = c.loop-i in
    let run = c.read_run-run in
    let led = run_turn c.args.input.now (session loop.self) loop.i loop.at loop.out loop.invariant.inside loop.invariant.there run.ensures.ran in
    let goes : is_reading c.take_byte.new.self.phase ≡ true = search rules in
    let took = byte_turn c.args.input.now (session run.new.self) run.result.next run.result.at run.new.out led.inside c.if-input-i.false c.in-Ok.ensures goes in
    record {
      there = took.there;
      inside = took.inside;
      size = took.same ∙ led.same ∙ loop.invariant.size;
      still = λ none. absurd (omega arith);
      says = took.says ∙ led.says ∙ loop.invariant.says;
    }
