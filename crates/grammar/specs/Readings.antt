-- Which texts are plans, and what a text is refused for, in the grammar's own terms.
-- Refusals 2 to 6 are here; a kind says which texts have a name, by its test `has`.
use Rattle.std.specs.Prelude.{◌≡◌, ℕ, ◌+◌, ◌-◌, ◌<◌, ◌≤◌, Bool, true, false, cond, ◌&&◌, ◌||◌, ◌⊎◌, List, [], ◌∷◌, ◌++◌, length, take, ◌==◌, slice_index, slice_index_or}
use Rattle.text.specs.Bytes.{digit, name_byte, between, Longest}
use Rattle.text.specs.Decimal.{says}
use Rattle.meaning.specs.Shape.{Sort}
use Rattle.grammar.specs.Written.{sign_of}
use Rattle.grammar.specs.Form.{Form, a_plan, GoesOn}
use Rattle.grammar.specs.Refusals.{code}
use Rattle.grammar.specs.declared.refusal.Refusal.{Refusal}
use Rattle.grammar.specs.declared.refusal.Refusal.TheVariants as refusal

-- refusal 2: p is the first byte with which no text of the form goes on, or the length where the text ends early
pub record Stops (t : List ℕ) (p : ℕ) : Type 0 where
  pub within : p ≤ length t
  pub so_far : GoesOn (take p t)
  pub no_further : p < length t → GoesOn (take (p + 1) t) → ⊥
  pub early : p ≡ length t → Form a_plan t → ⊥

-- an item begins at p: the text up to p goes on with `_`, which stands only where an item begins
pub record ItemAt (t : List ℕ) (p : ℕ) : Type 0 where
  pub inside : p < length t
  pub item_next : GoesOn (take p t ++ (95 ∷ []))

-- refusal 3: an item begins at p with a byte of a name, and the longest run of such bytes is no name of the kind
pub record HasNoName (has : List ℕ → Bool) (t : List ℕ) (p : ℕ) : Type 0 where
  pub item_here : ItemAt t p
  pub name_here : name_byte (slice_index t p) ≡ true
  pub to : ℕ
  pub longest : Longest name_byte t p to
  pub no_such : has (between t p to) ≡ false

-- a number begins at p, to the end of its digits, and is not one from `least` to `most`, plainly written
pub record WrongNumber (t : List ℕ) (p least most : ℕ) : Type 0 where
  pub to : ℕ
  pub longest : Longest digit t p to
  pub some : p < to
  pub breaks : says (between t p to) least most ≡ false

-- what stands behind `:` or `@` is complete, and breaks its rule: a correction, one behind `-`, or a bay
pub data WrongMark (t : List ℕ) (p : ℕ) : Type 0 where
  wrong_correction : slice_index_or t (p - 1) 0 ≡ 58 → WrongNumber t p 1 32767 → WrongMark t p
  wrong_negative : slice_index_or t (p - 1) 0 ≡ 58 → slice_index t p ≡ 45 → WrongNumber t (p + 1) 1 32768 → WrongMark t p
  wrong_bay : slice_index_or t (p - 1) 0 ≡ 64 → WrongNumber t p 0 63 → WrongMark t p

-- refusal 4: the text up to p goes on, and the mark whose `:` or `@` stands last in it is wrong
pub record BadMark (t : List ℕ) (p : ℕ) : Type 0 where
  pub behind : 0 < p
  pub goes_on : GoesOn (take p t)
  pub wrong : WrongMark t p

-- how often a byte stands in a text
abbrev pub occurrences : ℕ → List ℕ → ℕ
occurrences x [] = 0
occurrences x (b ∷ t) = cond (b == x) 1 0 + occurrences x t

-- how many brackets begin before p: each has one `(`
abbrev pub brackets_before : List ℕ → ℕ → ℕ
brackets_before t p = occurrences 40 (take p t)

-- how many of them end before p: each has one `)`
abbrev pub closed_before : List ℕ → ℕ → ℕ
closed_before t p = occurrences 41 (take p t)

-- an item follows `.`, `,` and `(`
abbrev pub item_follows : ℕ → Bool
item_follows b = b == 46 || (b == 44 || b == 40)

-- a leaf begins with a byte of a name or with `_`
abbrev pub leaf_begins : ℕ → Bool
leaf_begins b = name_byte b || b == 95

-- how many leaves begin in a text; `due` says whether its first byte begins an item
abbrev pub leaves_in : Bool → List ℕ → ℕ
leaves_in due [] = 0
leaves_in due (b ∷ t) = cond (due && leaf_begins b) 1 0 + leaves_in (item_follows b) t

-- how many leaves begin before p: with the text's first byte, or behind `.`, `,` or `(`
abbrev pub leaves_before : List ℕ → ℕ → ℕ
leaves_before t p = leaves_in true (take p t)

-- a bracket's sign stands at p, where an item begins
pub record BracketAt (t : List ℕ) (p : ℕ) : Type 0 where
  pub item_here : ItemAt t p
  pub of_sort : Sort
  pub sign_here : slice_index_or t p 0 ≡ sign_of of_sort

-- a leaf's first byte stands at p, where an item begins
pub record LeafAt (t : List ℕ) (p : ℕ) : Type 0 where
  pub item_here : ItemAt t p
  pub leaf_here : leaf_begins (slice_index t p) ≡ true

-- refusal 5: a bracket at p, with 16 open already
pub record TooDeep (t : List ℕ) (p : ℕ) : Type 0 where
  pub bracket_here : BracketAt t p
  pub sixteen_open : 16 + closed_before t p ≤ brackets_before t p

-- refusal 6: a leaf at p with 128 leaves before it, or a bracket at p with 64 brackets before it
pub data TooMany (t : List ℕ) (p : ℕ) : Type 0 where
  too_many_leaves : LeafAt t p → 128 ≤ leaves_before t p → TooMany t p
  too_many_brackets : BracketAt t p → 64 ≤ brackets_before t p → TooMany t p

-- what a text is refused for, with the place
abbrev pub RefusedAt : (List ℕ → Bool) → List ℕ → Refusal → Type 0
RefusedAt has t (refusal.Form p) = Stops t p
RefusedAt has t (refusal.NoName p) = HasNoName has t p
RefusedAt has t (refusal.Mark p) = BadMark t p
RefusedAt has t (refusal.Depth p) = TooDeep t p
RefusedAt has t (refusal.Many p) = TooMany t p
RefusedAt has t (refusal.Short n) = ⊥
RefusedAt has t refusal.Length = ⊥
RefusedAt has t (refusal.Width w) = ⊥
RefusedAt has t refusal.Cuts = ⊥
RefusedAt has t (refusal.Twice n) = ⊥

-- one refusal comes before another: at a smaller place, or at the same place with a number not greater
abbrev pub ComesFirst : Refusal → Refusal → Type 0
ComesFirst f g = ((code f).1 < (code g).1) ⊎ (((code f).1 ≡ (code g).1) × ((code f).0 ≤ (code g).0))

-- what is answered: of all that a text is refused for, the smallest place, then the smallest number
pub record FirstRefused (has : List ℕ → Bool) (t : List ℕ) (f : Refusal) : Type 0 where
  pub refused : RefusedAt has t f
  pub foremost : (g : Refusal) → RefusedAt has t g → ComesFirst f g

-- a text of the form that is refused for nothing
pub record Unrefused (has : List ℕ → Bool) (t : List ℕ) : Type 0 where
  pub form : Form a_plan t
  pub nothing : (f : Refusal) → RefusedAt has t f → ⊥

-- every text is either unrefused or has a first refusal, one only, and never both
pub record AlwaysDecided : Type 0 where
  pub either : (has : List ℕ → Bool) (t : List ℕ) → Unrefused has t ⊎ ((f : Refusal) × FirstRefused has t f)
  pub not_both : (has : List ℕ → Bool) (t : List ℕ) (f : Refusal) → Unrefused has t → FirstRefused has t f → ⊥
  pub only_one : (has : List ℕ → Bool) (t : List ℕ) (f g : Refusal) → FirstRefused has t f → FirstRefused has t g → f ≡ g
