-- What `read_input` answers.
use Rattle.std.specs.Prelude.{ℕ, Result, Ok, Err}
use Rattle.reading.specs.declared.CutShort.{CutShort}

-- how many bytes were read, whether or not a read failed
abbrev pub size_of : Result ℕ CutShort → ℕ
size_of (Ok n) = n
size_of (Err e) = e.size
