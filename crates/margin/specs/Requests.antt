-- What the words of a call ask for.
use Rattle.std.specs.Prelude.{ℕ, ◌||◌, if◌then◌else◌, List, [], ◌∷◌, codes, bytes_eq}
use Rattle.margin.specs.declared.request.Request.{Request}
use Rattle.margin.specs.declared.request.Request.TheVariants.{Run, Help, Unknown}

-- by the words behind the program's name
abbrev pub request_of : List (List ℕ) → Request
request_of [] = Run
request_of (word ∷ []) =
    if bytes_eq word (codes "--help") || bytes_eq word (codes "-h") then Help else Unknown
request_of _ = Unknown

-- the exit status of a call that nothing fails; one that fails has 1
abbrev pub status : Request → ℕ
status Run = 0
status Help = 0
status Unknown = 2
