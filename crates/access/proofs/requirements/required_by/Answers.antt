use Rattle.std.proofs.Common.{◌≡◌, ℕ, false, List, Some, refl, sym, ap, ◌∙◌}
use Rattle.std.specs.Prelude.{option_map, slice_get}
use Rattle.std.specs.List.{list_any}
use Rattle.scope.specs.Entry.{Entry}
use Rattle.scope.specs.View.{entry_of}
use Rattle.access.specs.declared.mentions.Mention.{Mention}
use Rattle.access.specs.declared.mentions.Mention.TheVariants as mention
use Rattle.access.specs.Needed.{is_column_of, on_entry, required_by}
use Rattle.access.proofs.requirements.required_by.Goals as goal

-- any part of the table of an entry of which no column is named
unnamed : (entries : List Entry) (mentions : List Mention) (k : ℕ) (m : Mention) (e : Entry) → m ≡ mention.From k → list_any (is_column_of k) mentions ≡ false → slice_get entries k ≡ Some e → Some (on_entry e) ≡ required_by entries mentions m
unnamed entries mentions k m e is none at = rw (is, none, at) refl

pub returns-in-Some : goal.returns-in-Some
returns-in-Some g c =
    unnamed _ c.args.mentions.now _ c.args.mention (entry_of c.in-Some.entry.now) c.in-From.is (sym c.is_named.ensures ∙ c.if-is_named.false)
    (sym c.entry_at.ensures ∙ ap (λ e. option_map (λ e. entry_of e.now) e) c.in-Some.is)
