-- What the private steps of the code do. No public contract cites these.
use Rattle.std.specs.Prelude.{◌≡◌, Bool, cond, List, map, ℕ, ◌+◌, ◌-◌, ◌*◌, ◌≤◌, length}
use Rattle.wire.specs.Answer.{Answer, result, refused}
use Rattle.group.specs.Group.{Read, got, failed}
use Rattle.line_list.specs.Lines.{Line, lines_of_list}
use Rattle.reply.specs.Shape.{chip_reply}
use Rattle.reply.specs.Reply.{space_if, line_text, reply_text}

-- how long a line's header is, if on, and the data of a line of n bytes
abbrev pub header_size : Bool → Bool → ℕ
header_size spaces headers = cond headers (5 + 2 * length (space_if spaces)) 0

abbrev pub data_size : Bool → ℕ → ℕ
data_size spaces n = (2 + length (space_if spaces)) * n - length (space_if spaces)

-- the number of bytes that the reply has, by which 6 is decided, or 5
abbrev pub size_with : Bool → Bool → Bool → Read (List Line) → Answer ℕ
size_with linefeeds spaces headers (failed j) = refused 5
size_with linefeeds spaces headers (got ls rest) = result (length (reply_text linefeeds spaces headers ls))

-- the size of the reply of a line list
unfoldable pub reply_size : Bool → Bool → Bool → List ℕ → Answer ℕ
reply_size linefeeds spaces headers list = size_with linefeeds spaces headers (lines_of_list list)

-- A list is well formed, and a buffer has room for its lines and the prompt.
pub record LinesFit (linefeeds spaces headers : Bool) (list out : List ℕ) : Type 0 where
  pub lines : List Line
  pub rest : List ℕ
  pub reads : lines_of_list list ≡ got lines rest
  pub fits : length (chip_reply linefeeds (map (line_text spaces headers) lines)) ≤ length out
