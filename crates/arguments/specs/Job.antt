-- Which file a command line names for a job that reads one.
use Rattle.std.specs.Prelude.{ℕ, ◌==◌, ◌&&◌, Bool, true, false, if◌then◌else◌, List, [], ◌∷◌, drop, codes, Option, Some, None}
use Rattle.std.specs.Str.{bytes_eq, chars}

abbrev pub is_any : List ℕ → Bool
is_any [] = false
is_any (first ∷ rest) = true

-- a word is a flag where it begins with `-` (45), and a character follows
abbrev pub is_flag : List ℕ → Bool
is_flag [] = false
is_flag (first ∷ rest) = first == 45 && is_any (chars rest)

abbrev pub ends_options : List ℕ → Bool
ends_options word = bytes_eq word (codes "--")

-- the file that these words name after a job, if they name one at most and nothing else: `--` ends
-- the options, and what follows it is no flag
abbrev pub file_named : List (List ℕ) → Option (Option (List ℕ))
file_named [] = Some None
file_named (word ∷ []) =
    if ends_options word then Some None else (if is_flag word then None else Some (Some word))
file_named (word ∷ last ∷ []) =
    if ends_options word then Some (Some last)
    else (if is_flag word then None else (if ends_options last then Some (Some word) else None))
file_named (word ∷ last ∷ more ∷ rest) = None

abbrev pub file_asked : List ℕ → List (List ℕ) → Option (Option (List ℕ))
file_asked job [] = None
file_asked job (name ∷ rest) = if bytes_eq name job then file_named rest else None

-- the file for the job of this name, if a command line asks for that; its first word is the
-- program's own name
abbrev pub file_of : List ℕ → List (List ℕ) → Option (Option (List ℕ))
file_of job words = file_asked job (drop 1 words)
