-- Document 01, lib.rs: "Fresh settings: echo, linefeeds, spaces on; headers off; no last command. Line ending: CR LF with linefeeds, else CR."
use Rattle.std.specs.Prelude.{Bool, true, false, cond, List, [], ◌∷◌, ℕ, take}
use Rattle.wire.specs.Bytes.{held}
use Rattle.client_state.specs.declared.ClientState.{ClientState}

-- The settings of a client. A command has a byte at least, so no last command is the empty one.
pub record Settings : Type 0 where
  pub echo : Bool
  pub linefeeds : Bool
  pub spaces : Bool
  pub headers : Bool
  pub last : List ℕ

-- what a ClientState holds, whatever stands in its fields
abbrev pub settings : ClientState → Settings
settings s = record {
  echo = s.echo_enabled;
  linefeeds = s.linefeeds_enabled;
  spaces = s.spaces_enabled;
  headers = s.headers_enabled;
  last = held s.last_obd_command;
}

abbrev pub fresh : Settings
fresh = record { echo = true; linefeeds = true; spaces = true; headers = false; last = [] }

-- the line ending, by linefeeds
abbrev pub line_ending : Bool → List ℕ
line_ending linefeeds = cond linefeeds (13 ∷ 10 ∷ []) (13 ∷ [])

-- the same settings with another last command, of which 128 bytes are kept
abbrev pub with_last : Settings → List ℕ → Settings
with_last s command = record { echo = s.echo; linefeeds = s.linefeeds; spaces = s.spaces; headers = s.headers; last = take 128 command }
