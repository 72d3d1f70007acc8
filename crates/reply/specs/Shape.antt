-- What the server sends for some lines. Document 01, server_session.rs: "text, ending, ending, `>`"; "each line .., ending; then ending and `>`." The crate `shape`
-- holds it to the ELM327 datasheet.
use Rattle.std.specs.Prelude.{Bool, List, [], ◌∷◌, ◌++◌, ℕ}
use Rattle.client_state.specs.Settings.{line_ending}

abbrev pub chip_reply : Bool → List (List ℕ) → List ℕ
chip_reply linefeeds [] = line_ending linefeeds ++ (62 ∷ [])
chip_reply linefeeds (l ∷ ls) = l ++ (line_ending linefeeds ++ chip_reply linefeeds ls)
