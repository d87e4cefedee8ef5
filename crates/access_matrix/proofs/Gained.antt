-- What is found of the rows and columns that a role gains.
use Rattle.std.proofs.Common.{◌≡◌, ℕ, zero, suc, ◌+◌, ◌≤◌, ◌==◌, Bool, false, not, ◌&&◌, ◌||◌, cond, List, [], ◌∷◌, length, map, filter, get_or, refl, sym, ap, ◌∙◌, arith}
use Rattle.std.specs.List.{range_with_len}
use Rattle.std.proofs.lemmas.Bool.{and_left}
use Rattle.std.proofs.lemmas.List.{get_or_past, length-map}
use Rattle.std.proofs.lemmas.List.Elements.{filter_agree}
use Rattle.value.specs.Names.{Name}
use Rattle.store.specs.Database.{Database, rows_of}
use Rattle.access_matrix.specs.Changes.{are_any, columns_gained, gains, is_among, rows_gained}
use Rattle.access_matrix.specs.Reading.{columns_read, reads_row}
use Rattle.access_matrix.specs.Sights.{IsGain, IsSight, is_any}
use Rattle.access_matrix.specs.declared.gains.Gain.{Gain}
use Rattle.access_matrix.specs.declared.sights.Sight.{Sight}

-- ---- numbers past which none passes

module _ (p : ℕ → Bool) where
  none_from : (a n : ℕ) → ((k : ℕ) → a ≤ k → p k ≡ false) → filter p (range_with_len a n) ≡ []
  none_from a zero h = refl
  none_from a (suc n) h =
      ap (λ b. cond b (a ∷ filter p (range_with_len (a + 1) n)) (filter p (range_with_len (a + 1) n))) (h a (omega arith))
      ∙ none_from (a + 1) n (λ k l. h k (omega arith))

  longer : (a n m : ℕ) → n ≤ m → ((k : ℕ) → a + n ≤ k → p k ≡ false) → filter p (range_with_len a n) ≡ filter p (range_with_len a m)
  longer a zero m l h = sym (none_from a m (λ k q. h k (omega arith)))
  longer a (suc n) zero l h = absurd (omega arith)
  longer a (suc n) (suc m) l h = ap (λ r. cond (p a) (a ∷ r) r) (longer (a + 1) n m (omega arith) (λ k q. h k (omega arith)))

-- ---- from one sight to another

module _ {A : Type 0} (before after : Database) (role table : Name) (old new : Sight A) (o : IsSight before role table old) (n : IsSight after role table new) where
  pub rows_are : length (filter (λ k. get_or new.rows k false && not (get_or old.rows k false)) (range_with_len 0 (length new.rows))) ≡ length (rows_gained before after role table)
  rows_are = ap length (
      longer (λ k. get_or new.rows k false && not (get_or old.rows k false)) 0 (length new.rows) (length (rows_of after table)) n.within
      (λ k l. and_left (get_or new.rows k false) (not (get_or old.rows k false)) (get_or_past new.rows k false (omega arith)))
      ∙ filter_agree (λ k. get_or new.rows k false && not (get_or old.rows k false)) (λ k. reads_row after role table k && not (reads_row before role table k))
      (λ k. ap (λ b. b && not (get_or old.rows k false)) (n.rows k) ∙ ap (λ b. reads_row after role table k && not b) (o.rows k))
      (range_with_len 0 (length (rows_of after table))))

  pub columns_are : filter (λ name. not (is_among name (map (λ c. c.now) old.columns))) (map (λ c. c.now) new.columns) ≡ columns_gained before after role table
  columns_are =
      ap (λ names. filter (λ name. not (is_among name names)) (map (λ c. c.now) new.columns)) o.columns
      ∙ ap (λ names. filter (λ name. not (is_among name (columns_read before role table))) names) n.columns

-- ---- whether that is anything

suc_not : (n : ℕ) → (suc n == 0) ≡ false
suc_not n = grind arith

any_counted : {X : Type 0} (xs : List X) (n : ℕ) → n ≡ length xs → not (n == 0) ≡ are_any xs
any_counted [] n h = ap (λ n. not (n == 0)) h
any_counted (x ∷ xs) n h = ap (λ n. not (n == 0)) h ∙ ap not (suc_not (length xs))

module _ {A : Type 0} (before after : Database) (role table : Name) (g : Gain A) (is : IsGain before after role table g) where
  pub any_gain : is_any g ≡ gains before after role table
  any_gain =
      ap (λ b. b || not (length g.columns == 0)) (any_counted (rows_gained before after role table) g.rows is.rows)
      ∙ ap (λ b. are_any (rows_gained before after role table) || b)
      (any_counted (columns_gained before after role table) (length g.columns) (sym (length-map g.columns (λ c. c.now)) ∙ ap length is.columns))
