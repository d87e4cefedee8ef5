-- The bytes of a reader that are left.
use Rattle.std.specs.Prelude.{ℕ, ◌≡◌, ◌++◌, Bool, false, List, [], ◌∷◌, Option, None, IfSome, option_to_list}
use Rattle.csv.specs.Reading.{is_bom}
use Rattle.std.specs.Io.KnownBytes.{Consumes, IsAtEnd}

-- how many were passed over since bytes were read, those that are held, and all that are left, where they are known
pub record Unread : Type 0 where
  pub passed : ℕ
  pub held : List ℕ
  pub left : Option (List ℕ)

-- those that are left begin with those that are held
abbrev pub StartsLeft : Unread → Type 0
StartsLeft a = IfSome a.left (λ xs. (more : List ℕ) × (xs ≡ a.held ++ more))

-- all that are left are held
abbrev pub AllAreHeld : Unread → Type 0
AllAreHeld a = IfSome a.left (λ xs. xs ≡ a.held)

-- the first byte of known bytes was taken, or there is none
abbrev pub TakesByte : Option (List ℕ) → Option (List ℕ) → Option ℕ → Type 0
TakesByte old new byte = Consumes old new (option_to_list byte) × (byte ≡ None → IsAtEnd new)

-- the bytes begin with a byte order mark
unfoldable pub has_mark : List ℕ → Bool
has_mark [] = false
has_mark (a ∷ []) = false
has_mark (a ∷ b ∷ []) = false
has_mark (a ∷ b ∷ c ∷ rest) = is_bom a b c
