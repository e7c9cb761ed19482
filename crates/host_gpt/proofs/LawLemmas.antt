-- The answers to an image exclude one another.
use Rattle.std.proofs.Common.{◌≡◌, ℕ, List, refl, sym, subst, ◌∙◌, inl, inr}
use Rattle.host_gpt.specs.{LargeExcludes, OneTable, SameTable, TableExcludes, IsChosen, IsReadAt, HasNone, table_place, Which, Primary, Backup}

same_choice : (image : List (List ℕ)) (which which' : Which) → IsChosen image which → IsChosen image which' → which ≡ which'
same_choice image Primary Primary c c' = refl
same_choice image Primary Backup c c' = absurd (c'.0 c)
same_choice image Backup Primary c c' = absurd (c.0 c')
same_choice image Backup Backup c c' = refl

pub one_table : OneTable
one_table image which which' id id' first first' last last' entries entries' t t' =
    let same : which ≡ which' = same_choice image which which' t.chosen t'.chosen in
    same_read which which' same t.read t'.read
  where
    same_read : (w w' : Which) → w ≡ w' → IsReadAt image (table_place image w) id first last entries → IsReadAt image (table_place image w') id' first' last' entries'
        → SameTable w w' id id' first first' last last' entries entries'
    same_read w w' e r r' =
        let moved : IsReadAt image (table_place image w) id' first' last' entries' = subst (λ (x : Which). IsReadAt image (table_place image x) id' first' last' entries') (sym e) r' in
        record {
          same_which = e;
          same_id = r.disk_id ∙ sym moved.disk_id;
          same_first = r.first_usable ∙ sym moved.first_usable;
          same_last = r.last_usable ∙ sym moved.last_usable;
          same_entries = r.used ∙ sym moved.used;
        }

not_chosen : (image : List (List ℕ)) (which : Which) → IsChosen image which → ¬ HasNone image
not_chosen image Primary c none = none.primary c
not_chosen image Backup c none = none.backup c.1

pub table_excludes : TableExcludes
table_excludes image which id first last entries t = (λ absent. not_chosen image which t.chosen absent.none, λ large. not_chosen image which t.chosen large.none)

pub large_excludes : LargeExcludes
large_excludes image large absent = elim large.large [ inl primary ↦ absent.primary primary | inr backup ↦ absent.backup backup ]
