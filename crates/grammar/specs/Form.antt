-- The form of a plan's text, as a grammar. Bytes are numbers: 46 is `.`, 44 `,`, 40 `(`, 41 `)`, 95 `_`, 58 `:`,
-- 45 `-` and 64 `@`.
use Rattle.std.specs.Prelude.{◌≡◌, ℕ, suc, ◌<◌, ◌≤◌, Bool, true, List, [], ◌∷◌, ◌++◌}
use Rattle.text.specs.Bytes.{digit, name_byte}
use Rattle.meaning.specs.Shape.{Sort, lock, choice, interleave}
use Rattle.grammar.specs.Written.{sign_of}

-- the least and the most plans that a bracket holds
abbrev pub least : Sort → ℕ
least lock = 1
least choice = 2
least interleave = 2

abbrev pub most : Sort → ℕ
most lock = 1
most choice = 8
most interleave = 8

-- one byte or more, all passing a test
pub data BytesOf (test : ℕ → Bool) : List ℕ → Type 0 where
  last_byte : {b : ℕ} → test b ≡ true → BytesOf test (b ∷ [])
  more_bytes : {b : ℕ} {w : List ℕ} → test b ≡ true → BytesOf test w → BytesOf test (b ∷ w)

-- the digits of a number
abbrev pub Digits : List ℕ → Type 0
Digits w = BytesOf digit w

-- the bytes of a name: lower-case letters and digits
abbrev pub NameRun : List ℕ → Type 0
NameRun w = BytesOf name_byte w

-- a correction: `:`, an optional `-`, and digits
pub data Correction : List ℕ → Type 0 where
  unsigned : {w : List ℕ} → Digits w → Correction (58 ∷ w)
  negative : {w : List ℕ} → Digits w → Correction (58 ∷ 45 ∷ w)

-- a bay: `@` and digits
pub data Bay : List ℕ → Type 0 where
  in_bay : {w : List ℕ} → Digits w → Bay (64 ∷ w)

-- the marks of a name, each at most once, the correction before the bay
pub data Marks : List ℕ → Type 0 where
  no_mark : Marks []
  correction_only : {w : List ℕ} → Correction w → Marks w
  bay_only : {v : List ℕ} → Bay v → Marks v
  both_marks : {w v : List ℕ} → Correction w → Bay v → Marks (w ++ v)

-- a leaf: `_`, or a name with its marks
pub data Leaf : List ℕ → Type 0 where
  blank_leaf : Leaf (95 ∷ [])
  name_leaf : {w v : List ℕ} → NameRun w → Marks v → Leaf (w ++ v)

-- what a stretch of text is: an item; a plan; or the k-th plan of a bracket with all that follows it, to the `)`
pub data Phrase : Type 0 where
  an_item a_plan : Phrase
  some_plans : Sort → ℕ → Phrase

-- the grammar:
--   an item is a leaf, or a bracket: its sign, `(`, and its plans from the first on;
--   a plan is an item, or an item, `.` and a plan;
--   the last plan of a bracket is followed by `)`, if there are enough plans;
--   another is followed by `,` and the next, if there may be more
pub data Form : Phrase → List ℕ → Type 0 where
  whole_leaf : {w : List ℕ} → Leaf w → Form an_item w
  whole_bracket : {s : Sort} {w : List ℕ} → Form (some_plans s 1) w → Form an_item (sign_of s ∷ 40 ∷ w)
  one_item : {w : List ℕ} → Form an_item w → Form a_plan w
  more_items : {w v : List ℕ} → Form an_item w → Form a_plan v → Form a_plan (w ++ (46 ∷ v))
  last_plan : {s : Sort} {k : ℕ} {w : List ℕ} → least s ≤ k → Form a_plan w → Form (some_plans s k) (w ++ (41 ∷ []))
  more_plans : {s : Sort} {k : ℕ} {w v : List ℕ}
      → k < most s → Form a_plan w → Form (some_plans s (suc k)) v → Form (some_plans s k) (w ++ (44 ∷ v))

-- some text of the form begins so
abbrev pub GoesOn : List ℕ → Type 0
GoesOn t = (u : List ℕ) × Form a_plan (t ++ u)
