-- What the edits of the book come to, and what the answers about it depend on.
use Rattle.std.proofs.Common.{◌≡◌, inl, inr, Bool, true, false, cond, not, is_some, List, [], ◌∷◌, ◌++◌, append-nil, append_assoc, filter, Option, Some, None, IfSome, refl, sym, ap, subst, ◌∙◌}
use Rattle.std.specs.List.{AllByRecursion}
use Rattle.wire_types.specs.declared.error_code.ErrorCode.{ErrorCode}
use Rattle.msg_acl.specs.declared.entries.BindingEntry.{BindingEntry}
use Rattle.msg_acl.specs.declared.entries.FilterEntry.{FilterEntry}
use Rattle.msg_admin.specs.declared.reply.Reply.{Reply}
use Rattle.msg_admin.specs.declared.reply.Reply.TheVariants as replies
use Rattle.acl_binding.specs.declared.binding.Binding.{Binding}
use Rattle.acl_binding.specs.declared.binding.Numbered.{Numbered}
use Rattle.acl_binding.specs.declared.filter.Filter.{Filter}
use Rattle.acl_binding.specs.declared.question.Question.{Question}
use Rattle.acl_binding.specs.Binding.{same_binding}
use Rattle.acl_binding.specs.Entries.{binding_of, filter_of}
use Rattle.acl_binding.specs.Book.{BookValue, number_of, with_binding, with_new_binding}
use Rattle.acl_binding.specs.Filter.{matches, matching_bindings, is_not_matched}
use Rattle.acl_binding.proofs.Same.{same_itself}
use Rattle.authorizer.specs.declared.answer.Refusal.{Refusal}
use Rattle.authorizer.specs.Asking.{Rules, part_refusal}
use Rattle.broker_world.specs.World.{World, rules_of}
use Rattle.broker_world.specs.Whole.{Served, whole_outcome_by, whole_outcome}
use Rattle.acl_handlers.specs.DescribeAcls.{describe_acls_questions, describe_acls_reply, describe_acls_outcome}
use Rattle.acl_handlers.specs.CreateAcls.{alter_questions, book_with, book_created, create_acls_outcome}
use Rattle.acl_handlers.specs.DeleteAcls.{book_without, book_deleted, deletion_results, delete_acls_reply, delete_acls_outcome}
use Rattle.api_laws.specs.AclLaws.{IsOfEntry, AreCreated, CreatesEach, StandsIn, AreDeleted, DeletesEach, IsRefusedWhole, RefusedEditNothing, SameEdit, AclsDependOnTheBook, AclsKeepTopics}
use Rattle.acl_handlers.proofs.BookBounds.{whole_topics}

-- ---- bindings that stand in the book stay there

there_front : (es more : List Numbered) (b : Binding) → is_some (number_of es b) ≡ true → is_some (number_of (es ++ more) b) ≡ true
there_front [] more b h = absurd (let clash : false ≡ true = h in cc)
there_front (e ∷ es) more b h = by_same (same_binding e.binding b) h (λ there. there_front es more b there) where
  by_same : (t : Bool) → is_some (cond t (Some e.number) (number_of es b)) ≡ true → (is_some (number_of es b) ≡ true → is_some (number_of (es ++ more) b) ≡ true)
      → is_some (cond t (Some e.number) (number_of (es ++ more) b)) ≡ true
  by_same true there rest = refl
  by_same false there rest = rest there

there_back : (es : List Numbered) (e : Numbered) (b : Binding) → same_binding e.binding b ≡ true → is_some (number_of (es ++ e ∷ []) b) ≡ true
there_back [] e b same = ap (λ (t : Bool). is_some (cond t (Some e.number) None)) same
there_back (x ∷ es) e b same = by_same (same_binding x.binding b) (there_back es e b same) where
  by_same : (t : Bool) → is_some (number_of (es ++ e ∷ []) b) ≡ true → is_some (cond t (Some x.number) (number_of (es ++ e ∷ []) b)) ≡ true
  by_same true there = refl
  by_same false there = there

added_stands : (book : BookValue) (b : Binding) → is_some (number_of (with_binding book b).entries b) ≡ true
added_stands book b = by_there (is_some (number_of book.entries b)) refl where
  by_there : (t : Bool) → is_some (number_of book.entries b) ≡ t → is_some (number_of (cond t book (with_new_binding book b)).entries b) ≡ true
  by_there true there = there
  by_there false absent = there_back book.entries (record { number = book.next; binding = b }) b (same_itself b)

added_keeps : (book : BookValue) (a b : Binding) → is_some (number_of book.entries b) ≡ true → is_some (number_of (with_binding book a).entries b) ≡ true
added_keeps book a b there = by_there (is_some (number_of book.entries a)) where
  by_there : (t : Bool) → is_some (number_of (cond t book (with_new_binding book a)).entries b) ≡ true
  by_there true = there
  by_there false = there_front book.entries (record { number = book.next; binding = a } ∷ []) b there

with_keeps : (book : BookValue) (o : Option Binding) (b : Binding) → is_some (number_of book.entries b) ≡ true → is_some (number_of (book_with book o).entries b) ≡ true
with_keeps book None b there = there
with_keeps book (Some a) b there = added_keeps book a b there

created_keeps : (book : BookValue) (es : List BindingEntry) (b : Binding) → is_some (number_of book.entries b) ≡ true → is_some (number_of (book_created book es).entries b) ≡ true
created_keeps book [] b there = there
created_keeps book (e ∷ es) b there = created_keeps (book_with book (binding_of e)) es b (with_keeps book (binding_of e) b there)

abbrev AllStand : BookValue → List BindingEntry → Type 0
AllStand book es = AllByRecursion (λ e. IfSome (binding_of e) (λ b. is_some (number_of book.entries b) ≡ true)) es

created_stand : (book : BookValue) (es : List BindingEntry) → AllStand (book_created book es) es
created_stand book [] = tt
created_stand book (e ∷ es) = (by_binding (binding_of e), created_stand (book_with book (binding_of e)) es) where
  by_binding : (o : Option Binding) → IfSome o (λ b. is_some (number_of (book_created (book_with book o) es).entries b) ≡ true)
  by_binding None = tt
  by_binding (Some b) = created_keeps (with_binding book b) es b (added_stands book b)

-- the book of a request that is one part and is granted
book_granted : (o : Option Refusal) (w : World) (refused : ErrorCode → Reply) (served : Served) → o ≡ None → served.world.book ≡ (whole_outcome_by o w refused served).world.book
book_granted None w refused served is = refl
book_granted (Some r) w refused served is = absurd (let clash : Some r ≡ None = is in cc)

-- ---- what is new

-- the book holds what it held, and then bindings of entries
record HasMore (entries : List BindingEntry) (old new : List Numbered) : Type 0 where
  more : List Numbered
  kept : new ≡ old ++ more
  sent : AllByRecursion (λ (n : Numbered). IsOfEntry entries n.binding) more

of_later : (e : BindingEntry) (es : List BindingEntry) (more : List Numbered) → AllByRecursion (λ (n : Numbered). IsOfEntry es n.binding) more → AllByRecursion (λ (n : Numbered). IsOfEntry (e ∷ es) n.binding) more
of_later e es [] all = tt
of_later e es (n ∷ more) all = (inr all.0, of_later e es more all.1)

more_by_one : (book : BookValue) (e : BindingEntry) (es : List BindingEntry) (b : Binding) (t : Bool) → binding_of e ≡ Some b → HasMore es (cond t book (with_new_binding book b)).entries (book_created (cond t book (with_new_binding book b)) es).entries
    → HasMore (e ∷ es) book.entries (book_created (cond t book (with_new_binding book b)) es).entries
more_by_one book e es b true is rest = record { more = rest.more; kept = rest.kept; sent = of_later e es rest.more rest.sent }
more_by_one book e es b false is rest =
    let one : Numbered = record { number = book.next; binding = b } in
    record { more = one ∷ rest.more; kept = rest.kept ∙ append_assoc book.entries (one ∷ []) rest.more; sent = (inl is, of_later e es rest.more rest.sent) }

created_more : (book : BookValue) (es : List BindingEntry) → HasMore es book.entries (book_created book es).entries
created_more book [] = record { more = []; kept = sym (append-nil book.entries); sent = tt }
created_more book (e ∷ es) = by_binding (binding_of e) refl (created_more (book_with book (binding_of e)) es) where
  by_binding : (o : Option Binding) → binding_of e ≡ o → HasMore es (book_with book o).entries (book_created (book_with book o) es).entries → HasMore (e ∷ es) book.entries (book_created (book_with book o) es).entries
  by_binding None is rest = record { more = rest.more; kept = rest.kept; sent = of_later e es rest.more rest.sent }
  by_binding (Some b) is rest = more_by_one book e es b (is_some (number_of book.entries b)) is rest

created : (book : BookValue) (es : List BindingEntry) → AreCreated es book.entries (book_created book es).entries
created book es =
    let after = created_more book es in
    record { each = created_stand book es; more = after.more; kept = after.kept; sent = after.sent }

pub creates_each : CreatesEach create_acls_outcome
creates_each w caller r granted =
    subst (λ (book : BookValue). AreCreated r.creations w.book.entries book.entries) (book_granted (part_refusal (rules_of w) (alter_questions caller)) w _ _ granted) (created w.book r.creations)

-- ---- bindings that a filter picks are gone

none_removed : (es : List Numbered) (f : Filter) → matching_bindings (filter (is_not_matched f) es) f ≡ []
none_removed [] f = refl
none_removed (e ∷ es) f = by_match (matches f e.binding) refl (none_removed es f) where
  by_match : (m : Bool) → matches f e.binding ≡ m → matching_bindings (filter (is_not_matched f) es) f ≡ [] → matching_bindings (cond (not m) (e ∷ filter (is_not_matched f) es) (filter (is_not_matched f) es)) f ≡ []
  by_match true is none = none
  by_match false is none = ap (λ (t : Bool). cond t (e.binding ∷ matching_bindings (filter (is_not_matched f) es) f) (matching_bindings (filter (is_not_matched f) es) f)) is ∙ none

none_picked : (m : Bool) (b : Binding) (rest : List Binding) → cond m (b ∷ rest) rest ≡ [] → (m ≡ false) × (rest ≡ [])
none_picked true b rest h = absurd (let clash : b ∷ rest ≡ [] = h in cc)
none_picked false b rest h = (refl, h)

none_kept : (p : Numbered → Bool) (es : List Numbered) (f : Filter) → matching_bindings es f ≡ [] → matching_bindings (filter p es) f ≡ []
none_kept p [] f none = refl
none_kept p (e ∷ es) f none =
    let parts = none_picked (matches f e.binding) e.binding (matching_bindings es f) none in
    by_kept (p e) parts.0 (none_kept p es f parts.1) where
      by_kept : (k : Bool) → matches f e.binding ≡ false → matching_bindings (filter p es) f ≡ [] → matching_bindings (cond k (e ∷ filter p es) (filter p es)) f ≡ []
      by_kept true is rest = ap (λ (t : Bool). cond t (e.binding ∷ matching_bindings (filter p es) f) (matching_bindings (filter p es) f)) is ∙ rest
      by_kept false is rest = rest

without_none : (book : BookValue) (o : Option Filter) (f : Filter) → matching_bindings book.entries f ≡ [] → matching_bindings (book_without book o).entries f ≡ []
without_none book None f none = none
without_none book (Some g) f none = none_kept (is_not_matched g) book.entries f none

deleted_none : (book : BookValue) (es : List FilterEntry) (f : Filter) → matching_bindings book.entries f ≡ [] → matching_bindings (book_deleted book es).entries f ≡ []
deleted_none book [] f none = none
deleted_none book (e ∷ es) f none = deleted_none (book_without book (filter_of e)) es f (without_none book (filter_of e) f none)

abbrev NonePicked : BookValue → List FilterEntry → Type 0
NonePicked book es = AllByRecursion (λ e. IfSome (filter_of e) (λ f. matching_bindings book.entries f ≡ [])) es

deleted_picked : (book : BookValue) (es : List FilterEntry) → NonePicked (book_deleted book es) es
deleted_picked book [] = tt
deleted_picked book (e ∷ es) = (by_filter (filter_of e), deleted_picked (book_without book (filter_of e)) es) where
  by_filter : (o : Option Filter) → IfSome o (λ f. matching_bindings (book_deleted (book_without book o) es).entries f ≡ [])
  by_filter None = tt
  by_filter (Some f) = deleted_none (book_without book (Some f)) es f (none_removed book.entries f)

-- ---- bindings that no filter picks stay

filter_keeps : (p : Numbered → Bool) (es : List Numbered) (n : Numbered) → StandsIn es n → p n ≡ true → StandsIn (filter p es) n
filter_keeps p [] n there holds = absurd there
filter_keeps p (e ∷ es) n there holds = by_kept (p e) refl there (λ later. filter_keeps p es n later holds) where
  by_kept : (k : Bool) → p e ≡ k → StandsIn (e ∷ es) n → (StandsIn es n → StandsIn (filter p es) n) → StandsIn (cond k (e ∷ filter p es) (filter p es)) n
  by_kept true is (inl same) rest = inl same
  by_kept true is (inr later) rest = inr (rest later)
  by_kept false is (inl same) rest = absurd (let clash : true ≡ false = sym holds ∙ ap p (sym same) ∙ is in cc)
  by_kept false is (inr later) rest = rest later

filter_alone : (p : Numbered → Bool) (es : List Numbered) (n : Numbered) → StandsIn (filter p es) n → StandsIn es n
filter_alone p [] n there = there
filter_alone p (e ∷ es) n there = by_kept (p e) there (λ later. filter_alone p es n later) where
  by_kept : (k : Bool) → StandsIn (cond k (e ∷ filter p es) (filter p es)) n → (StandsIn (filter p es) n → StandsIn es n) → StandsIn (e ∷ es) n
  by_kept true (inl same) rest = inl same
  by_kept true (inr later) rest = inr (rest later)
  by_kept false later rest = inr (rest later)

deleted_kept : (book : BookValue) (es : List FilterEntry) (n : Numbered) → StandsIn book.entries n → AllByRecursion (λ e. IfSome (filter_of e) (λ f. matches f n.binding ≡ false)) es → StandsIn (book_deleted book es).entries n
deleted_kept book [] n there none = there
deleted_kept book (e ∷ es) n there none = deleted_kept (book_without book (filter_of e)) es n (by_filter (filter_of e) none.0) none.1 where
  by_filter : (o : Option Filter) → IfSome o (λ f. matches f n.binding ≡ false) → StandsIn (book_without book o).entries n
  by_filter None missed = there
  by_filter (Some f) missed = filter_keeps (is_not_matched f) book.entries n there (ap not missed)

deleted_alone : (book : BookValue) (es : List FilterEntry) (n : Numbered) → StandsIn (book_deleted book es).entries n → StandsIn book.entries n
deleted_alone book [] n there = there
deleted_alone book (e ∷ es) n there = by_filter (filter_of e) (deleted_alone (book_without book (filter_of e)) es n there) where
  by_filter : (o : Option Filter) → StandsIn (book_without book o).entries n → StandsIn book.entries n
  by_filter None stands = stands
  by_filter (Some f) stands = filter_alone (is_not_matched f) book.entries n stands

deleted : (book : BookValue) (es : List FilterEntry) → AreDeleted es book.entries (book_deleted book es).entries
deleted book es = record { each = deleted_picked book es; kept = λ n there none. deleted_kept book es n there none; alone = λ n there. deleted_alone book es n there }

pub deletes_each : DeletesEach delete_acls_outcome
deletes_each w caller r granted =
    subst (λ (book : BookValue). AreDeleted r.filters w.book.entries book.entries) (book_granted (part_refusal (rules_of w) (alter_questions caller)) w _ _ granted) (deleted w.book r.filters)

-- ---- a request that is one part

refused_whole : (w : World) (questions : List Question) (refused : ErrorCode → Reply) (served : Served) (r : Refusal) → part_refusal (rules_of w) questions ≡ Some r → IsRefusedWhole w r (whole_outcome w questions refused served)
refused_whole w questions refused served r e = record {
  world = ap (λ (o : Option Refusal). (whole_outcome_by o w refused served).world) e;
  refusals = ap (λ (o : Option Refusal). (whole_outcome_by o w refused served).refusals) e;
}

pub refused_edit_nothing : RefusedEditNothing create_acls_outcome delete_acls_outcome
refused_edit_nothing = record {
  create = λ w caller q r e. refused_whole w (alter_questions caller) _ _ r e;
  delete = λ w caller q r e. refused_whole w (alter_questions caller) _ _ r e;
}

same_by : (o : Option Refusal) (v w : World) (refused : ErrorCode → Reply) (s t : Served) → v.book ≡ w.book → s.reply ≡ t.reply → s.world.book ≡ t.world.book → SameEdit (whole_outcome_by o v refused s) (whole_outcome_by o w refused t)
same_by None v w refused s t before reply after = record { answer = record { reply = reply; refusals = refl }; book = after }
same_by (Some r) v w refused s t before reply after = record { answer = record { reply = refl; refusals = refl }; book = before }

same_whole : (v w : World) (questions : List Question) (refused : ErrorCode → Reply) (s t : Served) → rules_of v ≡ rules_of w → s.reply ≡ t.reply → s.world.book ≡ t.world.book → SameEdit (whole_outcome v questions refused s) (whole_outcome w questions refused t)
same_whole v w questions refused s t rules reply after =
    let asked : part_refusal (rules_of v) questions ≡ part_refusal (rules_of w) questions = ap (λ (r : Rules). part_refusal r questions) rules in
    subst (λ (o : Option Refusal). SameEdit (whole_outcome_by o v refused s) (whole_outcome w questions refused t)) (sym asked)
    (same_by (part_refusal (rules_of w) questions) v w refused s t (ap (λ (r : Rules). r.book) rules) reply after)

pub acls_depend : AclsDependOnTheBook describe_acls_outcome create_acls_outcome
acls_depend = record {
  describe = λ v w caller r base.
      let same = ap (λ (rules : Rules). rules.book) base.rules in
      same_whole v w (describe_acls_questions caller) _ _ _ base.rules (ap (λ (b : BookValue). replies.DescribeAcls (describe_acls_reply b (filter_of r.filter))) same) same;
  create = λ v w caller r base.
      let same = ap (λ (rules : Rules). rules.book) base.rules in
      same_whole v w (alter_questions caller) _ _ _ base.rules refl (ap (λ (b : BookValue). book_created b r.creations) same);
  delete = λ v w caller r base.
      let same = ap (λ (rules : Rules). rules.book) base.rules in
      same_whole v w (alter_questions caller) _ _ _ base.rules (ap (λ (b : BookValue). replies.DeleteAcls (delete_acls_reply (deletion_results b r.filters))) same) (ap (λ (b : BookValue). book_deleted b r.filters) same);
}

pub acls_keep_topics : AclsKeepTopics create_acls_outcome
acls_keep_topics = record {
  create = λ w caller r. whole_topics (part_refusal (rules_of w) (alter_questions caller)) w _ _ refl;
  delete = λ w caller r. whole_topics (part_refusal (rules_of w) (alter_questions caller)) w _ _ refl;
}
