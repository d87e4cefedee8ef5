-- The result of reading a text, from the result of reading its tokens.
use Rattle.std.proofs.Common.{◌≡◌, ℕ, ◌⊎◌, inl, inr, ◌<◌, ◌≤◌, nat_lt, Bool, true, false, List, [], ◌∷◌, length, Result, Ok, Err, IfOk, IfErr, refl, sym, ◌∙◌, ap, arith}
use Rattle.std.specs.Prelude.{if◌then◌else◌}
use Rattle.std.proofs.lemmas.Bool.{ltb-true, ltb-false, le-ltb}
use Rattle.row_grammar.specs.Limits.{reads, whole_at}
use Rattle.row_grammar.proofs.Answer.{found, only, refused, one_tree}
use Rattle.row_grammar.proofs.Check.{good}
use Rattle.row_tokens.specs.Tokens.{Token, words}
use Rattle.row_ast.specs.Ast.{Query}
use Rattle.row_reader.specs.Language.{language, Rule}
use Rattle.row_reader.specs.Expressions.{nested_first, grammar, run_limit, depth_limit}
use Rattle.row_queries.specs.Queries.{query}
use Rattle.row_statements.specs.Schemas.{schema, statement}
use Rattle.syntax.specs.Limits.{within_limits}
use Rattle.syntax.specs.Parsing.{Derives, StopsAt, PassesLimit, query_bytes, schema_bytes, statement_bytes, RefusesQuery, Refuses, of_text, read_within, of_size, parsed_query, parsed_schema, parsed_statement, IsDetermined, IsSmall, Fits}
use Rattle.memory.specs.Gives.{Gives}
use Rattle.memory.specs.declared.failure.Failure.{Failure}
use Rattle.memory.specs.declared.failure.Failure.TheVariants.{Error, OutOfMemory}
use Rattle.row_grammar.specs.declared.error.ReadError.{ReadError}
use Rattle.row_grammar.specs.declared.error.ReadError.TheVariants.{Syntax, Limit}
use Rattle.syntax.specs.declared.error.ParseError.{ParseError}
use Rattle.syntax.specs.declared.error.ParseError.TheVariants as errors
use Rattle.row_reader.proofs.Decides.{kinds, nested_ext, decided}
use Rattle.syntax.proofs.Decides.{query_good, schema_good, statement_good}

-- ---- a text that is not too long

module _ {A : Type 0} (f : Rule A) (decides : good language nested_first nested_ext kinds false f ≡ true) (most : ℕ) (text : List ℕ) where
  abbrev whole : Result A ReadError
  whole = whole_at grammar run_limit depth_limit f (words text)

  pub within_found : (t : A) → read_within most f text ≡ Ok t → Derives f text t × (length text ≤ most)
  within_found t e = long (nat_lt most (length text)) refl e
    where
      short : (r : Result A ReadError) → r ≡ whole → of_text text r ≡ Ok t → Derives f text t
      short (Ok x) q e = let s : x ≡ t = cc in found grammar kinds nested_ext decided f decides run_limit depth_limit (words text) t (sym q ∙ ap Ok s)
      short (Err stop) q e = cc

      long : (b : Bool) → nat_lt most (length text) ≡ b → (if b then Err errors.Limit else of_text text whole) ≡ Ok t → Derives f text t × (length text ≤ most)
      long true b e = cc
      long false b e = (short whole refl e, ltb-false most (length text) b)

  pub within_only : (t : A) → Derives f text t → length text ≤ most → read_within most f text ≡ Ok t
  within_only t h l = rw (le-ltb most (length text) l, only grammar kinds nested_ext decided f decides run_limit depth_limit (words text) t h) refl

  stops_within : (at : ℕ) → read_within most f text ≡ Err (errors.Syntax at) → StopsAt f text at × (length text ≤ most)
  stops_within at e = long (nat_lt most (length text)) refl e
    where
      short : (r : Result A ReadError) → r ≡ whole → of_text text r ≡ Err (errors.Syntax at) → StopsAt f text at
      short (Ok x) q e = cc
      short (Err (Syntax n)) q e = (n, refused grammar kinds nested_ext decided f decides run_limit depth_limit (words text) (Syntax n) (sym q), (cc))
      short (Err (Limit n)) q e = cc

      long : (b : Bool) → nat_lt most (length text) ≡ b → (if b then Err errors.Limit else of_text text whole) ≡ Err (errors.Syntax at) → StopsAt f text at × (length text ≤ most)
      long true b e = cc
      long false b e = (short whole refl e, ltb-false most (length text) b)

  pub within_stops : (at : ℕ) → read_within most f text ≡ Err (errors.Syntax at) → StopsAt f text at × (length text ≤ most) × ((t : A) → Derives f text t → ⊥)
  within_stops at e = let w = stops_within at e in (w.0, w.1, λ t h. let o = within_only t h w.1 in cc (o, e))

  pub within_limit : read_within most f text ≡ Err errors.Limit → (most < length text) ⊎ PassesLimit f text
  within_limit e = long (nat_lt most (length text)) refl e
    where
      short : (r : Result A ReadError) → r ≡ whole → of_text text r ≡ Err errors.Limit → PassesLimit f text
      short (Ok x) q e = cc
      short (Err (Syntax n)) q e = cc
      short (Err (Limit n)) q e = (n, refused grammar kinds nested_ext decided f decides run_limit depth_limit (words text) (Limit n) (sym q))

      long : (b : Bool) → nat_lt most (length text) ≡ b → (if b then Err errors.Limit else of_text text whole) ≡ Err errors.Limit → (most < length text) ⊎ PassesLimit f text
      long true b e = inl (ltb-true most (length text) b)
      long false b e = inr (short whole refl e)

  pub within_one : (t t' : A) → Derives f text t → Derives f text t' → t ≡ t'
  within_one t t' h h' = one_tree grammar kinds nested_ext decided f decides run_limit depth_limit (words text) t t' h h'

pub within_is : {A : Type 0} (f : Rule A) (most : ℕ) (text : List ℕ) (ts : List Token) (t : A) → ts ≡ words text → length text ≤ most → whole_at grammar run_limit depth_limit f ts ≡ Ok t → read_within most f text ≡ Ok t
within_is {A} f most text ts t s l e = let w : ◌≡◌ {A = Result A ReadError} (whole_at grammar run_limit depth_limit f (words text)) (Ok t) = rw (← s) e in rw (le-ltb most (length text) l, w) refl

-- ---- tokens, read within limits that are these

module _ {A : Type 0} (w d : ℕ) (wide : w ≡ run_limit) (deep : d ≡ depth_limit) (f : Rule A) (ts : List Token) (t : A) where
  -- no token is left over
  pub none_left : (us : List Token) (n : ℕ) → reads grammar w d f ts ≡ Ok (t, us) → length us ≡ n → n ≡ 0 → whole_at grammar run_limit depth_limit f ts ≡ Ok t
  unfolding whole_at
  none_left [] n e q z = rw (← wide, ← deep, e) refl
  none_left (u ∷ us) n e q z = absurd (omega arith)

  -- tokens are left over
  pub left_over : (us : List Token) (n : ℕ) → reads grammar w d f ts ≡ Ok (t, us) → length us ≡ n → 0 < n → whole_at grammar run_limit depth_limit f ts ≡ Err (Syntax n)
  unfolding whole_at
  left_over [] n e q l = absurd (omega arith)
  left_over (u ∷ us) n e q l = rw (← wide, ← deep, e, ← q) refl

-- ---- a text that has no further limits

module _ {A : Type 0} (f : Rule A) (decides : good language nested_first nested_ext kinds false f ≡ true) (most : ℕ) where
  limits : (text : List ℕ) → (most < length text) ⊎ PassesLimit f text → (most < length text) ⊎ (PassesLimit f text ⊎ ((t : A) × Derives f text t × (Fits t → ⊥)))
  limits text (inl l) = inl l
  limits text (inr p) = inr (inl p)

  pub within_determined : IsDetermined f most Fits (read_within most f)
  within_determined = record {
    found = λ text t e. let w = within_found f decides most text t e in (w.0, w.1, tt);
    only = λ text t h l s. within_only f decides most text t h l;
    stops = λ text at e. within_stops f decides most text at e;
    limits = λ text e. limits text (within_limit f decides most text e);
    one_tree = λ text t t' h h'. within_one f decides most text t t' h h';
  }

  pub within_refused : {X : Type 0} (text : List ℕ) (view : X → A) (r : Result X (Failure ParseError)) → Gives view r (read_within most f text) → IfErr r (λ e. Refuses most f text e)
  within_refused text view (Ok x) g = tt
  within_refused text view (Err OutOfMemory) g = tt
  within_refused text view (Err (Error (errors.Syntax at))) g = within_stops f decides most text at g
  within_refused text view (Err (Error errors.Limit)) g = within_limit f decides most text g

-- ---- a query

module _ (text : List ℕ) where
  abbrev read : Result Query ParseError
  read = read_within query_bytes query text

  abbrev sized : Query → Bool → Result Query ParseError
  sized x b = if b then Ok x else Err errors.Limit

  pub query_found : (q : Query) → parsed_query text ≡ Ok q → Derives query text q × (length text ≤ query_bytes) × IsSmall q
  unfolding parsed_query
  query_found q e = of_size_ok read refl e
    where
      small : (x : Query) (b : Bool) → within_limits x ≡ b → sized x b ≡ Ok q → (x ≡ q) × IsSmall x
      small x true b e = ((cc), b)
      small x false b e = cc

      of_size_ok : (r : Result Query ParseError) → read ≡ r → of_size r ≡ Ok q → Derives query text q × (length text ≤ query_bytes) × IsSmall q
      of_size_ok (Err e) r h = cc
      of_size_ok (Ok x) r h =
          let s = small x (within_limits x) refl h in
          let w = within_found query query_good query_bytes text x r in
          rw (← s.0) (w.0, w.1, s.1)

  pub query_only : (q : Query) → Derives query text q → length text ≤ query_bytes → IsSmall q → parsed_query text ≡ Ok q
  unfolding parsed_query
  query_only q h l s = rw (within_only query query_good query_bytes text q h l, s) refl

  pub query_stops : (at : ℕ) → parsed_query text ≡ Err (errors.Syntax at) → StopsAt query text at × (length text ≤ query_bytes) × ((q : Query) → Derives query text q → ⊥)
  unfolding parsed_query
  query_stops at e = of_size_err read refl e
    where
      small : (x : Query) (b : Bool) → sized x b ≡ Err (errors.Syntax at) → ⊥
      small x true e = cc
      small x false e = cc

      of_size_err : (r : Result Query ParseError) → read ≡ r → of_size r ≡ Err (errors.Syntax at) → StopsAt query text at × (length text ≤ query_bytes) × ((q : Query) → Derives query text q → ⊥)
      of_size_err (Err e) r h = within_stops query query_good query_bytes text at (r ∙ h)
      of_size_err (Ok x) r h = absurd (small x (within_limits x) h)

  pub query_limit : parsed_query text ≡ Err errors.Limit → RefusesQuery text (Error errors.Limit)
  unfolding parsed_query
  query_limit e = of_size_limit read refl e
    where
      small : (x : Query) (b : Bool) → within_limits x ≡ b → sized x b ≡ Err errors.Limit → within_limits x ≡ false
      small x true b e = cc
      small x false b e = b

      wider : (query_bytes < length text) ⊎ PassesLimit query text → RefusesQuery text (Error errors.Limit)
      wider (inl l) = inl l
      wider (inr p) = inr (inl p)

      of_size_limit : (r : Result Query ParseError) → read ≡ r → of_size r ≡ Err errors.Limit → RefusesQuery text (Error errors.Limit)
      of_size_limit (Err e) r h = wider (within_limit query query_good query_bytes text (r ∙ h))
      of_size_limit (Ok x) r h = inr (inr (x, (within_found query query_good query_bytes text x r).0, small x (within_limits x) refl h))

  pub query_refused : {X : Type 0} (view : X → Query) (r : Result X (Failure ParseError)) → Gives view r (parsed_query text) → IfErr r (λ e. RefusesQuery text e)
  query_refused view (Ok x) g = tt
  query_refused view (Err OutOfMemory) g = tt
  query_refused view (Err (Error (errors.Syntax at))) g = query_stops at g
  query_refused view (Err (Error errors.Limit)) g = query_limit g

query_limits : (text : List ℕ) → RefusesQuery text (Error errors.Limit) → (query_bytes < length text) ⊎ (PassesLimit query text ⊎ ((q : Query) × Derives query text q × (IsSmall q → ⊥)))
query_limits text (inl l) = inl l
query_limits text (inr (inl p)) = inr (inl p)
query_limits text (inr (inr h)) = inr (inr (h.0, h.1, λ small. let big = h.2 in cc))

pub query_determined : IsDetermined query query_bytes IsSmall parsed_query
query_determined = record {
  found = query_found;
  only = query_only;
  stops = query_stops;
  limits = λ text e. query_limits text (query_limit text e);
  one_tree = λ text t t' h h'. within_one query query_good query_bytes text t t' h h';
}

-- ---- schema statements

pub schema_determined : IsDetermined schema schema_bytes Fits parsed_schema
unfolding parsed_schema
schema_determined = within_determined schema schema_good schema_bytes

pub statement_determined : IsDetermined statement statement_bytes Fits parsed_statement
unfolding parsed_statement
statement_determined = within_determined statement statement_good statement_bytes

-- ---- the result of a call

module _ {A X : Type 0} {f : Rule A} {most : ℕ} {fits : A → Type 0} {parsed : List ℕ → Result A ParseError} (d : IsDetermined f most fits parsed) (view : X → A) (text : List ℕ) where
  pub gives_found : (r : Result X (Failure ParseError)) → Gives view r (parsed text) → IfOk r (λ x. Derives f text (view x))
  gives_found (Ok x) g = (d.found text (view x) g).0
  gives_found (Err e) g = tt

  pub gives_only : (r : Result X (Failure ParseError)) → Gives view r (parsed text) → (t : A) → Derives f text t → length text ≤ most → fits t → Gives view r (Ok t)
  gives_only (Ok x) g t h l s = sym (d.only text t h l s) ∙ g
  gives_only (Err (Error e)) g t h l s = sym (d.only text t h l s) ∙ g
  gives_only (Err OutOfMemory) g t h l s = tt

-- ---- a text that is too long

pub query_too_long : (text : List ℕ) → nat_lt query_bytes (length text) ≡ true → parsed_query text ≡ Err errors.Limit
unfolding parsed_query
query_too_long text e = rw e refl
