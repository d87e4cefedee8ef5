-- The field of null is that of no other value.
use Rattle.std.proofs.Common.{◌≡◌, ℕ, ℤ, Bool, true, false, cond, List, [], ◌∷◌, ◌++◌, get_or, length, ap, arith}
use Rattle.std.specs.List.{flat_map}
use Rattle.std.specs.Fmt.{signed_decimal}
use Rattle.value.specs.Datum.{null, int, text, bool}
use Rattle.value.specs.Exact.{is_bigint}
use Rattle.value.specs.Texts.{null_mark}
use Rattle.value.specs.declared.types.ColType.TheVariants as types
use Rattle.value.proofs.OneSpelling.{read_again}
use Rattle.replies.specs.ReplyText.{NullFieldIsNull, doubled, needs_quotes}

number_field : (n : ℤ) → is_bigint n ≡ true → signed_decimal n ≡ null_mark → ⊥
number_field n h e = let none = rw e at (read_again n h) in cc

text_field : (t : List ℕ) (b : Bool) → (t ≡ null_mark → ⊥) → cond b (34 ∷ flat_map doubled t ++ 34 ∷ []) t ≡ null_mark → ⊥
text_field t true other e = let first = ap (λ bs. get_or bs 0 0) e in omega arith
text_field t false other e = other e

pub null_field : NullFieldIsNull
null_field types.Bigint (int n) h m e = number_field n h e
null_field types.Bigint null h m e = cc
null_field types.Bigint (text t) h m e = cc
null_field types.Bigint (bool b) h m e = cc
null_field types.Text (text t) h m e = text_field t (needs_quotes t) m e
null_field types.Text null h m e = cc
null_field types.Text (int n) h m e = cc
null_field types.Text (bool b) h m e = cc
null_field types.Boolean (bool true) h m e = let long = ap length e in omega arith
null_field types.Boolean (bool false) h m e = let long = ap length e in omega arith
null_field types.Boolean null h m e = cc
null_field types.Boolean (int n) h m e = cc
null_field types.Boolean (text t) h m e = cc
