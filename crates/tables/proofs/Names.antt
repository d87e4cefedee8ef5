-- The names of the columns, one after another.
use Rattle.std.proofs.Common.{ℕ, suc, ◌≡◌, ◌≢◌, ◌+◌, ◌<◌, ◌≤◌, Bool, true, false, ◌&&◌, List, [], ◌∷◌, length, map, drop, get_or, Some, None, refl, ap, ◌∙◌, arith}
use Rattle.std.proofs.lemmas.List.{drop_all}
use Rattle.std.specs.Cmp.{second_so}
use Rattle.std.specs.Str.{bytes_eq}
use Rattle.std.specs.List.{slice_get}
use Rattle.value.specs.declared.column.Column as declared
use Rattle.tables.specs.Loading.{Fields, names}
use Rattle.value.specs.Columns.{Column, column_of}
use Rattle.tables.proofs.Cells.{drop-field, drop-map, drop-no_field}

pub names_length : (cs : List Column) (fs : Fields) → names cs fs ≡ true → length fs ≡ length cs
unfolding names
names_length [] [] h = refl
names_length [] (f ∷ fs) h = cc h
names_length (c ∷ cs) [] h = cc h
names_length (c ∷ cs) (f ∷ fs) h = ap suc (names_length cs fs (second_so (bytes_eq f c.name) (names cs fs) h))

not_names : (cs : List Column) (fs : Fields) (b : Bool) → names cs fs ≡ b → length fs ≢ length cs → b ≡ false
not_names cs fs true e h = absurd (h (names_length cs fs e))
not_names cs fs false e h = refl

pub names-other_length : (cs : List Column) (fs : Fields) → length fs ≢ length cs → names cs fs ≡ false
names-other_length cs fs h = not_names cs fs _ refl h

pub names_step : {A : Type 0} (columns : List (declared.Column A)) (fs : Fields) (i : ℕ) (x : declared.Column A) (f : List ℕ) (whole : Bool)
    → i < length columns → x ≡ get_or columns i x → Some f ≡ slice_get fs i → whole ≡ names (drop i (map column_of columns)) (drop i fs)
    → whole ≡ (bytes_eq f x.name && names (drop (i + 1) (map column_of columns)) (drop (i + 1) fs))
unfolding names
names_step columns fs i x f whole lt is at e = e ∙ rw (drop-map column_of columns i x lt is, drop-field fs i f at) refl

pub names_missing : {A : Type 0} (columns : List (declared.Column A)) (fs : Fields) (i : ℕ) (x : declared.Column A) (whole : Bool)
    → i < length columns → x ≡ get_or columns i x → None ≡ slice_get fs i → whole ≡ names (drop i (map column_of columns)) (drop i fs) → whole ≡ false
unfolding names
names_missing columns fs i x whole lt is at e = e ∙ rw (drop-map column_of columns i x lt is, drop-no_field fs i at) refl

pub names_end : (cs : List Column) (fs : Fields) (i : ℕ) (whole : Bool) → length cs ≤ i → length fs ≡ length cs → whole ≡ names (drop i cs) (drop i fs) → whole ≡ true
unfolding names
names_end cs fs i whole h n e = e ∙ rw (drop_all i cs h, drop_all i fs (omega (arith, h, n))) refl
