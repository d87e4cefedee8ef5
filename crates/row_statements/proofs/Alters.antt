-- ALTER TABLE and a name, and the tokens after them.
use Rattle.std.proofs.Common.{◌≡◌, ℕ, List, Ok, Err, refl}
use Rattle.row_grammar.specs.Grammar.{made}
use Rattle.row_grammar.specs.Decoder.{Outcome, ◌>>=◌, word_at}
use Rattle.row_grammar.specs.Limits.{reads}
use Rattle.row_tokens.specs.declared.token.TokenKind.TheVariants as k
use Rattle.row_tokens.specs.Tokens.{Token}
use Rattle.value.specs.Names.{Name}
use Rattle.row_reader.specs.Language.{is, kind_of}
use Rattle.row_reader.specs.Expressions.{grammar, name}
use Rattle.row_statements.proofs.Named.{with_first}
use Rattle.row_statements.specs.Schemas.{Alteration, altered, alteration, alter}

abbrev as_made : {A B : Type 0} → (A → B) → Outcome Token A → Outcome Token B
as_made f o = o >>= λ x. Ok (f x.0, x.1)

last_step : (u v : Token) (t : Name) (o : Outcome Token Alteration) → as_made (λ p. altered p.0 p.1) (as_made (λ x. x.1) (with_first u (as_made (λ x. x.1) (with_first v (with_first t o))))) ≡ as_made (altered t) o
last_step u v t (Ok x) = refl
last_step u v t (Err e) = refl

pub named : (w d : ℕ) (ts us vs ws : List Token) (u v : Token) (t : Name) → word_at kind_of (is k.Alter) ts ≡ Ok (u, us) → word_at kind_of (is k.Table) us ≡ Ok (v, vs) → reads grammar w d name vs ≡ Ok (t, ws)
    → reads grammar w d alter ts ≡ reads grammar w d (made (altered t) alteration) ws
unfolding alter
named w d ts us vs ws u v t p q r = rw (p, q, r) (last_step u v t (reads grammar w d alteration ws))
