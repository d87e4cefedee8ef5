-- A role lacks the same privilege first where a column of the mentions counts once.
use Rattle.std.proofs.Common.{◌≡◌, Bool, true, false, cond, ◌||◌, List, [], ◌∷◌, ◌++◌, find, Option, Some, None, option_map, refl, sym, ap, ◌∙◌, append_assoc, append-nil, true≢false}
use Rattle.std.specs.Option.{option_or}
use Rattle.std.specs.Prelude.{slice_get}
use Rattle.std.specs.List.{cons_option, filter_map, list_any}
use Rattle.std.proofs.lemmas.Bool.{and_parts, eqb-true}
use Rattle.std.proofs.lemmas.List.Elements.{filter_map-append}
use Rattle.std.proofs.lemmas.List.Folds.{find-append, list_any-append}
use Rattle.value.specs.Names.{Name}
use Rattle.expr.specs.Bound.{is_column}
use Rattle.expr.specs.declared.bound.ColumnId.{ColumnId}
use Rattle.scope.specs.Entry.{Entry}
use Rattle.catalog.specs.Catalog.{Catalog}
use Rattle.access.specs.Access.{denial}
use Rattle.access.specs.declared.mentions.Mention.{Mention}
use Rattle.access.specs.declared.mentions.Mention.TheVariants as mention
use Rattle.access.specs.EachOnce.{each_once, is_again, is_mention_of, with_mention, with_mentions}
use Rattle.access.specs.Needed.{is_column_of, on_entry, required, required_by}

-- ---- a column that is there

-- the mentions before it, and those after it
record Parted (seen : List Mention) (m : Mention) : Type 0 where
  front : List Mention
  back : List Mention
  is : seen ≡ front ++ m ∷ back

same_column : (a b : ColumnId) → is_column a b ≡ true → a ≡ b
same_column a b h =
    let parts = and_parts _ _ h in
    let e : a.entry ≡ b.entry = eqb-true a.entry b.entry parts.0 in
    let k : a.column ≡ b.column = eqb-true a.column b.column parts.1 in
    ap (λ n. let id : ColumnId = record { entry = n; column = a.column } in id) e ∙ ap (λ n. let id : ColumnId = record { entry = b.entry; column = n } in id) k

further : (n : Mention) (seen : List Mention) (m : Mention) → Parted seen m → Parted (n ∷ seen) m
further n seen m p = record { front = n ∷ p.front; back = p.back; is = ap (λ ns. n ∷ ns) p.is }

column_parted : (id : ColumnId) (seen : List Mention) → list_any (is_mention_of id) seen ≡ true → Parted seen (mention.Column id)
column_parted id [] h = absurd (true≢false (sym h))
column_parted id (mention.From k ∷ seen) h = further (mention.From k) seen (mention.Column id) (column_parted id seen h)
column_parted id (mention.Column other ∷ seen) h = by (is_column other id) refl h (column_parted id seen)
  where
    by : (b : Bool) → is_column other id ≡ b → (b || list_any (is_mention_of id) seen) ≡ true → (list_any (is_mention_of id) seen ≡ true → Parted seen (mention.Column id)) → Parted (mention.Column other ∷ seen) (mention.Column id)
    by true e h more = record { front = []; back = seen; is = ap (λ (i : ColumnId). mention.Column i ∷ seen) (same_column other id e) }
    by false e h more = further (mention.Column other) seen (mention.Column id) (more h)

parted : (seen : List Mention) (m : Mention) → is_again seen m ≡ true → Parted seen m
parted seen (mention.From k) h = absurd (true≢false (sym h))
parted seen (mention.Column id) h = column_parted id seen h

-- ---- what a further mention of it does not change

module _ {Y : Type 0} (w : List Mention → Y) (absorbs : (seen more : List Mention) (m : Mention) → is_again seen m ≡ true → w (seen ++ more) ≡ w (seen ++ m ∷ more)) where
  same_with : (seen ms : List Mention) → w (with_mentions seen ms) ≡ w (seen ++ ms)
  same_with seen [] = ap w (sym (append-nil seen))
  same_with seen (m ∷ ms) = same_with (with_mention seen m) ms ∙ go (is_again seen m) refl
    where
      go : (b : Bool) → is_again seen m ≡ b → w (cond b seen (seen ++ m ∷ []) ++ ms) ≡ w (seen ++ m ∷ ms)
      go true h = absorbs seen ms m h
      go false h = ap w (append_assoc seen (m ∷ []) ms)

-- that one of them has a property
any_absorbs : (p : Mention → Bool) (seen more : List Mention) (m : Mention) → is_again seen m ≡ true → list_any p (seen ++ more) ≡ list_any p (seen ++ m ∷ more)
any_absorbs p seen more m h =
    let parts = parted seen m h in
    let whole : list_any p seen ≡ (list_any p parts.front || (p m || list_any p parts.back)) = ap (list_any p) parts.is ∙ list_any-append p parts.front (m ∷ parts.back) in
    list_any-append p seen more ∙ ap (λ b. b || list_any p more) whole
    ∙ go (list_any p parts.front) (p m) (list_any p parts.back) (list_any p more)
    ∙ sym (list_any-append p seen (m ∷ more) ∙ ap (λ b. b || (p m || list_any p more)) whole)
  where
    go : (a b c d : Bool) → ((a || (b || c)) || d) ≡ ((a || (b || c)) || (b || d))
    go true b c d = refl
    go false true c d = refl
    go false false c d = refl

-- the first of what they give that has a property
module _ {Y : Type 0} (q : Y → Bool) (f : Mention → Option Y) where
  abbrev first : List Mention → Option Y
  first ms = find q (filter_map f ms)

  first_absorbs : (seen more : List Mention) (m : Mention) → is_again seen m ≡ true → first (seen ++ more) ≡ first (seen ++ m ∷ more)
  first_absorbs seen more m h =
      on seen more ∙ ap (λ o. option_or o (first more)) whole ∙ go (f m) ∙ sym (on seen (m ∷ more) ∙ ap (λ o. option_or o (first (m ∷ more))) whole)
    where
      on : (xs ys : List Mention) → first (xs ++ ys) ≡ option_or (first xs) (first ys)
      on xs ys = ap (find q) (filter_map-append f xs ys) ∙ find-append q (filter_map f xs) (filter_map f ys)

      parts : Parted seen m
      parts = parted seen m h

      whole : first seen ≡ option_or (first parts.front) (first (m ∷ parts.back))
      whole = ap first parts.is ∙ on parts.front (m ∷ parts.back)

      either : (a : Option Y) (y : Y) (b : Bool) (back next : Option Y) → option_or (option_or a (cond b (Some y) back)) next ≡ option_or (option_or a (cond b (Some y) back)) (cond b (Some y) next)
      either (Some x) y b back next = refl
      either None y true back next = refl
      either None y false back next = refl

      go : (o : Option Y) → option_or (option_or (first parts.front) (find q (cons_option o (filter_map f parts.back)))) (first more)
          ≡ option_or (option_or (first parts.front) (find q (cons_option o (filter_map f parts.back)))) (find q (cons_option o (filter_map f more)))
      go None = refl
      go (Some y) = either (first parts.front) y (q y) (first parts.back) (first more)

-- ---- the required privileges

filter_map_same : {X Y : Type 0} (f g : X → Option Y) → ((x : X) → f x ≡ g x) → (xs : List X) → filter_map f xs ≡ filter_map g xs
filter_map_same f g same [] = refl
filter_map_same f g same (x ∷ xs) = ap (λ o. cons_option o (filter_map f xs)) (same x) ∙ ap (cons_option (g x)) (filter_map_same f g same xs)

required_same : (entries : List Entry) (ms : List Mention) (m : Mention) → required_by entries (each_once ms) m ≡ required_by entries ms m
required_same entries ms (mention.From k) = ap (λ b. cond b None (option_map on_entry (slice_get entries k))) (same_with (list_any (is_column_of k)) (λ seen more m h. any_absorbs (is_column_of k) seen more m h) [] ms)
required_same entries ms (mention.Column id) = refl

pub denial_once : (cat : Catalog) (r : Name) (entries : List Entry) (ms : List Mention) → denial cat r (required entries (each_once ms)) ≡ denial cat r (required entries ms)
denial_once cat r entries ms =
    ap (denial cat r) (filter_map_same (required_by entries (each_once ms)) (required_by entries ms) (λ m. required_same entries ms m) (each_once ms))
    ∙ same_with (λ ns. denial cat r (filter_map (required_by entries ms) ns)) (λ seen more m h. first_absorbs _ (required_by entries ms) seen more m h) [] ms
