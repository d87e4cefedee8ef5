-- What the getters of clap's matches say of the rows.
use Rattle.std.proofs.Common.{◌≡◌, ◌≢◌, ◌∙◌, sym, ap, Bool, true, false, refl, List, [], option_map, Option, Some, None}
use Rattle.std.specs.Prelude.{unwrap_or, codes}
use Rattle.std.specs.Option.{option_map_or}
use Rattle.std.specs.Str.{bytes_eq}
use Rattle.std.specs.Str.Parse.{ParsesBool}
use Rattle.std.proofs.lemmas.Slice.Eq.{bytes_eq-Decides}
use Rattle.clap.specs.Words.{ReadsOne, Text, first_of, first_value, matched_of, one_text, raw_values, rows_of}
use Rattle.clap.specs.declared.parser.matches.Found.{Found}
use Rattle.clap.proofs.WalkLemmas.{first_value-rows, one_text-rows, raw_values-rows}
use Rattle.command_line.specs.Requests.{is_set, texts_of}

-- the first value of an argument, by its rows
pub given : (f : Found) (name : Text) (value : Option Text) → value ≡ first_value f name → first_of name (rows_of f) ≡ value
given f name value e = sym (e ∙ first_value-rows f name)

abbrev or_nothing : Option (List Text) → List Text
or_nothing o = option_map_or (λ texts. texts) o []

-- all values of an argument, by its rows
pub all_given : (f : Found) (name : Text) (values : Option (List Text)) → values ≡ option_map raw_values (matched_of f name)
    → or_nothing values ≡ texts_of name (rows_of f)
all_given f name values e = ap or_nothing (e ∙ raw_values-rows f name)

abbrev is_true : Text → Bool
is_true text = bytes_eq text (codes "true")

not_true : (text : Text) (b : Bool) → is_true text ≡ b → text ≢ codes "true" → false ≡ b
not_true text false e other = refl
not_true text true e other = absurd (other ((bytes_eq-Decides text (codes "true")).0 e))

-- a flag is read from its text
flag_read : (E : Type 0) (text : Text) (value : Option Bool) → ReadsOne (ParsesBool {E = E}) text value → unwrap_or value false ≡ is_true text
flag_read E text (Some true) reads = rw reads refl
flag_read E text (Some false) reads = rw reads refl
flag_read E text None reads = not_true text (is_true text) refl reads.1.0

pub flag : (E : Type 0) (f : Found) (name : Text) (value : Option Bool) → (one_text f name ≡ None → value ≡ None)
    → ((text : Text) → one_text f name ≡ Some text → ReadsOne (ParsesBool {E = E}) text value)
    → unwrap_or value false ≡ is_set name (rows_of f)
flag E f name value none some = go (one_text f name) refl ∙ ap (λ o. option_map_or is_true o false) (one_text-rows f name)
  where
    go : (o : Option Text) → one_text f name ≡ o → unwrap_or value false ≡ option_map_or is_true (one_text f name) false
    go None e = rw (e, none e) refl
    go (Some text) e = rw e (flag_read E text value (some text e))
