-- Load files: a plan, stamp lines, and a trailer that says where they stand.
use Rattle.std.specs.Prelude.{◌≡◌, ℕ, ◌+◌, ◌-◌, ◌≤◌, Bool, true, cond, not, ◌&&◌, List, [], ◌∷◌, ◌++◌, length, take, drop, Some, None, Ok, Err, codes, Option, Result, ◌==◌, slice_index, slice_index_or}
use Rattle.std.specs.List.{flat_map}
use Rattle.text.specs.Bytes.{digit, every, between}
use Rattle.text.specs.Decimal.{value}
use Rattle.load.specs.declared.lines.Line.{Line}
use Rattle.load.specs.declared.trailer.Frame.{Frame}
use Rattle.load.specs.declared.trailer.FileRefusal.{FileRefusal}
use Rattle.load.specs.declared.trailer.FileRefusal.TheVariants.{Malformed, Misfit}

-- four digits say a number; zeros may stand in front
pub record Four (w : List ℕ) (n : ℕ) : Type 0 where
  pub four : length w ≡ 4
  pub digits : every digit w ≡ true
  pub worth : n ≡ value w

-- the bytes of a trailer, with its three fields: `end `, the fields with a space between them, and a line feed
abbrev pub trailer_bytes : List ℕ → List ℕ → List ℕ → List ℕ
trailer_bytes p s n = codes "end " ++ (p ++ (32 ∷ (s ++ (32 ∷ (n ++ (10 ∷ []))))))

-- the bytes are a trailer: its fields say the plan's place, the first stamp line's, and the number of lines
pub record Trailer (tail : List ℕ) (t : Frame) : Type 0 where
  pub p : List ℕ
  pub s : List ℕ
  pub n : List ℕ
  pub written : tail ≡ trailer_bytes p s n
  pub plan_says : Four p t.plan
  pub stamps_says : Four s t.stamps
  pub count_says : Four n t.count

-- the bytes of a trailer outside its fields
abbrev pub ruled : List ℕ → Bool
ruled t =
    (slice_index t 0 == 101) && slice_index t 1 == 110 && slice_index t 2 == 100 && slice_index t 3 == 32
    && slice_index t 8 == 32 && slice_index t 13 == 32 && slice_index t 18 == 10

-- a file of at most 8,192 bytes, whose last bytes are a trailer
pub record EndsIn (file : List ℕ) (t : Frame) : Type 0 where
  pub short : length file ≤ 8192
  pub front : List ℕ
  pub tail : List ℕ
  pub whole : file ≡ front ++ tail
  pub trailer : Trailer tail t

-- a file ends in one trailer at most
abbrev pub OneTrailer : Type 0
OneTrailer = (file : List ℕ) (t u : Frame) → EndsIn file t → EndsIn file u → t ≡ u

-- the file without its trailer, which has 19 bytes
abbrev pub body : List ℕ → List ℕ
body file = take (length file - 19) file

-- a line has its first byte's place and its bytes, without the line feed that ends it
abbrev pub Placed : Type 0
Placed = ℕ × List ℕ

-- a byte more in front of the first line; with no line, it is part of none
abbrev pub longer : ℕ → ℕ → List Placed → List Placed
longer p b [] = []
longer p b (x ∷ xs) = (p, b ∷ x.1) ∷ xs

-- the lines of a text whose first byte stands at a place; bytes behind the last line feed are no line
abbrev pub lines_at : ℕ → List ℕ → List Placed
lines_at p [] = []
lines_at p (b ∷ t) = cond (b == 10) ((p, []) ∷ lines_at (p + 1) t) (longer p b (lines_at (p + 1) t))

-- a line's bytes in the file
abbrev pub ended : Placed → List ℕ
ended x = x.1 ++ (10 ∷ [])

-- the stamp lines of a file, in turn
abbrev pub stamp_lines : List ℕ → Frame → List Placed
stamp_lines file t = lines_at t.stamps (drop t.stamps (body file))

-- the plan: from its place up to the line feed before the first stamp line
abbrev pub plan_text : List ℕ → Frame → List ℕ
plan_text file t = between file t.plan (t.stamps - 1)

-- the trailer fits the file: the plan comes before the stamp lines, with a line feed between;
-- and from the first stamp line up to the trailer there are as many lines as it says, and nothing else
pub record Fits (file : List ℕ) (t : Frame) : Type 0 where
  pub apart : t.plan + 1 ≤ t.stamps
  pub within : t.stamps ≤ length file - 19
  pub divided : slice_index_or file (t.stamps - 1) 0 ≡ 10
  pub filled : flat_map ended (stamp_lines file t) ≡ drop t.stamps (body file)
  pub counted : length (stamp_lines file t) ≡ t.count

-- what is made of a file: its frame; or it has no trailer, or one that does not fit
abbrev pub Framed : List ℕ → Result Frame FileRefusal → Type 0
Framed file (Ok t) = EndsIn file t × Fits file t
Framed file (Err Malformed) = (t : Frame) → EndsIn file t → ⊥
Framed file (Err Misfit) = (t : Frame) × EndsIn file t × (Fits file t → ⊥)

-- a file's refusal has a number, and the place 0
abbrev pub file_code : FileRefusal → ℕ × ℕ
file_code Malformed = (14, 0)
file_code Misfit = (15, 0)

-- no line feed
abbrev pub no_feed : ℕ → Bool
no_feed b = not (b == 10)

-- the line at a place of a file's body, and where the next one begins; or there is no line more
abbrev pub NextLine : List ℕ → ℕ → Option Line → Type 0
NextLine body at (Some x) =
    (x.at ≡ at)
    × (drop at body ≡ x.text.now ++ (10 ∷ drop x.next body))
    × (x.next ≡ at + length x.text.now + 1)
    × (x.next ≤ length body)
    × (lines_at at (drop at body) ≡ (at, x.text.now) ∷ lines_at x.next (drop x.next body))
NextLine body at None = lines_at at (drop at body) ≡ []

-- a body's bytes from a place on are lines and nothing else, so many
abbrev pub Counts : List ℕ → ℕ → Option ℕ → Type 0
Counts body at (Some n) = (flat_map ended (lines_at at (drop at body)) ≡ drop at body) × (n ≡ length (lines_at at (drop at body)))
Counts body at None = flat_map ended (lines_at at (drop at body)) ≡ drop at body → ⊥

-- lines that stand one after another from a place on, none with a line feed inside
abbrev pub Lined : ℕ → List Placed → Type 0
Lined p [] = Unit {0}
Lined p (x ∷ xs) = (x.0 ≡ p) × (every no_feed x.1 ≡ true) × Lined (p + length x.1 + 1) xs

-- the lines of a text are the one way to take it apart at its line feeds
abbrev pub LinesTold : Type 0
LinesTold =
    ((p : ℕ) (t : List ℕ) → Lined p (lines_at p t) × ((rest : List ℕ) × (t ≡ flat_map ended (lines_at p t) ++ rest) × (every no_feed rest ≡ true)))
    × ((p : ℕ) (xs : List Placed) (rest : List ℕ) → Lined p xs → every no_feed rest ≡ true → lines_at p (flat_map ended xs ++ rest) ≡ xs)

-- line after line of a body, from one place to another
abbrev pub Walk : List ℕ → ℕ → List Placed → ℕ → Type 0
Walk body at [] to = at ≡ to
Walk body at (x ∷ xs) to =
    (x.0 ≡ at)
    × (every no_feed x.1 ≡ true)
    × (drop at body ≡ x.1 ++ (10 ∷ drop (at + length x.1 + 1) body))
    × Walk body (at + length x.1 + 1) xs to

-- the stamp lines of a file whose trailer fits lead from the first one's place to the trailer, and are as many as it says
abbrev pub LinesWalked : Type 0
LinesWalked =
    (file : List ℕ) (t : Frame) → Fits file t
    → Walk (body file) t.stamps (stamp_lines file t) (length file - 19) × (length (stamp_lines file t) ≡ t.count)
