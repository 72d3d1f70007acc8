-- `hire_text::separator` meets its contract.
use mathlib.Core.Path.{sym}
use Rattle.hire_text.proofs.LineLaws.{separator_more}
use Rattle.hire_text.proofs.separator.Goals as goal

pub returns-then-i-bytes : goal.returns-then-i-bytes
returns-then-i-bytes c = sym (separator_more _ _ c.if-i-bytes.true)
