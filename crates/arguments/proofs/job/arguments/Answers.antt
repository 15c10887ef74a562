use Rattle.std.proofs.Common.{◌≡◌, ◌∙◌, ℕ, List, Option, Some, ap, codes, inl, map, refl, subst, sym}
use Rattle.std.proofs.lemmas.Result.{err_from_is_err_and}
use Rattle.clap.specs.Simple.{app_of}
use Rattle.clap.specs.Matches.{found_of, subcommand_name_of}
use Rattle.clap.specs.Walk.{rows_of}
use Rattle.clap.specs.declared.parser.matches.Found.{Found}
use Rattle.clap.proofs.WalkLemmas.{first_value-rows}
use Rattle.arguments.specs.Serving.{IsServedBy, NoneServes}
use Rattle.arguments.proofs.Asked.{asks_for, check_reads, gives, job_refused, none_found, replay_reads, serve_not_found, serves_not}
use Rattle.arguments.proofs.job.arguments.Goals as goal

pub returns-in_err-matches-clause-refusal : goal.returns-in_err-matches-clause-refusal
returns-in_err-matches-clause-refusal c =
    let up = err_from_is_err_and c.from_residual-in_err-matches.result c.from_residual-in_err-matches.ensures.1 in
    rw (up.1, up.2) (job_refused (app_of c.in_ok-command.command) (map (λ w. w.now) c.args.words.now) c.in_err-matches.field-0.0 c.in_ok-command.ensures c.in_err-matches.ensures.kinds)

pub returns-in-Some-clause-job : goal.returns-in-Some-clause-job
returns-in-Some-clause-job c =
    let words : List (List ℕ) = map (λ w. w.now) c.args.words.now in
    let found : Found = found_of c.in-Some.options.now in
    let named : subcommand_name_of c.in_ok-matches.matches ≡ Some (codes "replay") = c.in-Some.ensures.found.0 refl in
    asks_for (app_of c.in_ok-command.command) words c.in_ok-matches.matches c.in_ok-command.ensures c.in_ok-matches.ensures.ok.2 c.in_ok-matches.ensures.kinds (codes "replay") (rows_of found) named
    c.in-Some.ensures.rows replay_reads
    ∙ ap (λ (f : Option (List ℕ)). Some f) (sym (c.get_str.ensures ∙ first_value-rows found (codes "file")))

pub returns-in-Some-subcommand_matches-clause-job : goal.returns-in-Some-subcommand_matches-clause-job
returns-in-Some-subcommand_matches-clause-job c =
    let words : List (List ℕ) = map (λ w. w.now) c.args.words.now in
    let found : Found = found_of c.in-Some-subcommand_matches.options.now in
    let named : subcommand_name_of c.in_ok-matches.matches ≡ Some (codes "check") = c.in-Some-subcommand_matches.ensures.found.0 refl in
    asks_for (app_of c.in_ok-command.command) words c.in_ok-matches.matches c.in_ok-command.ensures c.in_ok-matches.ensures.ok.2 c.in_ok-matches.ensures.kinds (codes "check") (rows_of found) named
    c.in-Some-subcommand_matches.ensures.rows check_reads
    ∙ ap (λ (f : Option (List ℕ)). Some f) (sym (c.get_str-in-Some-subcommand_matches.ensures ∙ first_value-rows found (codes "file")))

pub returns-in-Some-subcommand_matches-2-clause-job : goal.returns-in-Some-subcommand_matches-2-clause-job
returns-in-Some-subcommand_matches-2-clause-job c =
    let words : List (List ℕ) = map (λ w. w.now) c.args.words.now in
    let found : Found = found_of c.in-Some-subcommand_matches-2.options.now in
    let named : subcommand_name_of c.in_ok-matches.matches ≡ Some (codes "show") = c.in-Some-subcommand_matches-2.ensures.found.0 refl in
    record {
      options = rows_of found;
      given = gives (app_of c.in_ok-command.command) words c.in_ok-matches.matches c.in_ok-command.ensures c.in_ok-matches.ensures.ok.2 c.in_ok-matches.ensures.kinds (codes "show") (rows_of found) named
          c.in-Some-subcommand_matches-2.ensures.rows;
      file = c.get_str-file.ensures ∙ first_value-rows found (codes "file");
      answers = c.get_str-answers.ensures ∙ first_value-rows found (codes "answers");
    }

pub returns-in_default-subcommand_matches-3-clause-refusal : goal.returns-in_default-subcommand_matches-3-clause-refusal
returns-in_default-subcommand_matches-3-clause-refusal c =
    let a = app_of c.in_ok-command.command in
    let words : List (List ℕ) = map (λ w. w.now) c.args.words.now in
    let m = c.in_ok-matches.matches in
    inl (none_found a words m c.in_ok-command.ensures c.in_ok-matches.ensures.ok.2
    (λ named. let found = c.subcommand_matches.ensures.found.1 named in cc)
    (λ named. let found = c.subcommand_matches-2.ensures.found.1 named in cc)
    (λ named. let found = c.subcommand_matches-3.ensures.found.1 named in cc)
    (serve_not_found a words m c.in_ok-command.ensures c.in_ok-matches.ensures.ok.2 (λ named. let found = c.subcommand_matches-4.ensures.found.1 named in cc)))

pub returns-clause-refusal : goal.returns-clause-refusal
returns-clause-refusal c =
    let a = app_of c.in_ok-command.command in
    let words : List (List ℕ) = map (λ w. w.now) c.args.words.now in
    let m = c.in_ok-matches.matches in
    let found : Found = found_of c.in-Some-subcommand_matches-3.options.now in
    let named : subcommand_name_of m ≡ Some (codes "serve") = c.in-Some-subcommand_matches-3.ensures.found.0 refl in
    inl (none_found a words m c.in_ok-command.ensures c.in_ok-matches.ensures.ok.2
    (λ named. let found = c.subcommand_matches.ensures.found.1 named in cc)
    (λ named. let found = c.subcommand_matches-2.ensures.found.1 named in cc)
    (λ named. let found = c.subcommand_matches-3.ensures.found.1 named in cc)
    (serves_not a words m c.in_ok-command.ensures c.in_ok-matches.ensures.ok.2 (rows_of found) named c.in-Some-subcommand_matches-3.ensures.rows
    (subst NoneServes (λ i id. first_value-rows found id i) c.in-Err.ensures.none)))

pub returns-in-Ok-clause-job : goal.returns-in-Ok-clause-job
returns-in-Ok-clause-job c =
    let words : List (List ℕ) = map (λ w. w.now) c.args.words.now in
    let found : Found = found_of c.in-Some-subcommand_matches-3.options.now in
    let named : subcommand_name_of c.in_ok-matches.matches ≡ Some (codes "serve") = c.in-Some-subcommand_matches-3.ensures.found.0 refl in
    record {
      options = rows_of found;
      given = gives (app_of c.in_ok-command.command) words c.in_ok-matches.matches c.in_ok-command.ensures c.in_ok-matches.ensures.ok.2 c.in_ok-matches.ensures.kinds (codes "serve") (rows_of found) named
          c.in-Some-subcommand_matches-3.ensures.rows;
      served = subst (λ (f : List ℕ → Option (List ℕ)). IsServedBy f c.in-Ok.serving) (λ i id. first_value-rows found id i) c.in-Ok.ensures.served;
      within = c.in-Ok.ensures.within;
    }
