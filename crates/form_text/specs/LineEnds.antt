-- Newlines are LF and CR; a line end is CR LF, a CR alone or an LF alone.
use Rattle.std.specs.Prelude.{ℕ, Bool, false, not, ◌&&◌, ◌||◌, ◌==◌, List, [], ◌∷◌, drop, filter, map, flat_map, if◌then◌else◌}
use Rattle.form_text.specs.Bytes.{line_feed, carriage_return}

-- a byte is LF or CR
abbrev pub is_newline : ℕ → Bool
is_newline b = (b == line_feed) || (b == carriage_return)

-- Strip newlines: the text without each LF and each CR (Infra, "strip newlines").
abbrev pub without_newlines : List ℕ → List ℕ
without_newlines text = filter (λ b. not (is_newline b)) text

-- an LF stands first
abbrev pub begins_with_lf : List ℕ → Bool
begins_with_lf [] = false
begins_with_lf (b ∷ rest) = b == line_feed

-- the text with LF for each pair CR LF
abbrev pub with_pairs_joined : List ℕ → List ℕ
with_pairs_joined [] = []
with_pairs_joined (b ∷ rest) =
    if (b == carriage_return) && begins_with_lf rest then with_pairs_joined rest else b ∷ with_pairs_joined rest

-- Normalise newlines: LF for each pair CR LF, and then for each CR that is left (Infra, "normalize newlines").
abbrev pub with_lf : List ℕ → List ℕ
with_lf text = map (λ b. if b == carriage_return then line_feed else b) (with_pairs_joined text)

-- the text with `end` for each line end
abbrev pub with_line_ends : List ℕ → List ℕ → List ℕ
with_line_ends end text = flat_map (λ b. if b == line_feed then end else b ∷ []) (with_lf text)

-- Each line end made CR LF: a CR that no LF follows, and an LF that follows no CR, become CR LF
-- (HTML, "Converting an entry list to a list of name-value pairs").
abbrev pub with_crlf : List ℕ → List ℕ
with_crlf text = with_line_ends (carriage_return ∷ line_feed ∷ []) text

-- what stands behind a line end that begins with `newline`, where `rest` stands behind that byte
abbrev pub behind_newline : ℕ → List ℕ → List ℕ
behind_newline newline rest = if (newline == carriage_return) && begins_with_lf rest then drop 1 rest else rest
