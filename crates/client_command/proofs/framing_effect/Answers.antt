-- `client_command::framing_effect` meets its contract: each test says whether the command is the text.
use mathlib.Core.Path.{refl, ◌∙◌}
use Rattle.wire.specs.Text.{ascii, raised}
use Rattle.client_command.specs.Commands.{framing_effect}
use Rattle.client_command.proofs.CommandLaws.{command_found}
use Rattle.client_command.proofs.framing_effect.Goals as goal
use Rattle.client_command.proofs.framing_effect.Goals.{then-eq_ignore_ascii_case-2-via-then-eq_ignore_ascii_case-2, then-eq_ignore_ascii_case-2-via-else-eq_ignore_ascii_case-2+then-eq_ignore_ascii_case-3}

pub returns-then-eq_ignore_ascii_case : goal.returns-then-eq_ignore_ascii_case
unfolding framing_effect raised
returns-then-eq_ignore_ascii_case c = simp (command_found _ (ascii "ATH1") _ refl c.eq_ignore_ascii_case.ensures.test ∙ c.if-eq_ignore_ascii_case.true)

pub returns-then-eq_ignore_ascii_case-2 : goal.returns-then-eq_ignore_ascii_case-2
unfolding framing_effect raised
returns-then-eq_ignore_ascii_case-2 c =
    let no = command_found c.args.command.now (ascii "ATH1") _ refl c.eq_ignore_ascii_case.ensures.test ∙ c.if-eq_ignore_ascii_case.false in
    elim c.then-eq_ignore_ascii_case-2.branch [
      | then-eq_ignore_ascii_case-2-via-then-eq_ignore_ascii_case-2 w ↦ simp (no, command_found _ (ascii "ATH0") _ refl c.eq_ignore_ascii_case-2.ensures.test ∙ w.if-eq_ignore_ascii_case-2.true)
      | then-eq_ignore_ascii_case-2-via-else-eq_ignore_ascii_case-2+then-eq_ignore_ascii_case-3 w ↦ simp (
        no,
        command_found _ (ascii "ATH0") _ refl c.eq_ignore_ascii_case-2.ensures.test ∙ w.if-eq_ignore_ascii_case-2.false,
        command_found _ (ascii "ATZ") _ refl w.eq_ignore_ascii_case-else-eq_ignore_ascii_case-2.ensures.test ∙ w.if-eq_ignore_ascii_case-3.true,
      )
    ]

pub returns : goal.returns
unfolding framing_effect raised
returns c = simp (
  command_found _ (ascii "ATH1") _ refl c.eq_ignore_ascii_case.ensures.test ∙ c.if-eq_ignore_ascii_case.false,
  command_found _ (ascii "ATH0") _ refl c.eq_ignore_ascii_case-2.ensures.test ∙ c.if-eq_ignore_ascii_case-2.false,
  command_found _ (ascii "ATZ") _ refl c.eq_ignore_ascii_case-else-eq_ignore_ascii_case-2.ensures.test ∙ c.if-eq_ignore_ascii_case-3.false,
)
