use Rattle.std.proofs.Common.{rules, to_z, of_z, w32}
use Rattle.session_pool.proofs.Unread.{other_version, no_start, unserved, whole, overlong, unreadable}
use Rattle.session_pool.proofs.begin.begin.Goals as goal

pub returns-in-Some : goal.returns-in-Some
returns-in-Some c = λ g limit frame of. other_version g limit c.args.state.now c.args.came.now frame (to_z w32 (of_z w32 c.in-Some.correlation)) (search rules) of

pub returns-in_default-start_of : goal.returns-in_default-start_of
returns-in_default-start_of c = λ g limit frame of. no_start g limit c.args.state.now c.args.came.now frame (search rules) (search rules) of

pub returns-then-not-is_served : goal.returns-then-not-is_served
returns-then-not-is_served c = λ g limit frame of.
    unserved g limit c.args.state.now c.args.came.now frame (c.in-Some-start_of.names, to_z w32 (of_z w32 c.in-Some-start_of.correlation)) (search rules) (search rules) (search rules) of

pub returns-then-len-came : goal.returns-then-len-came
returns-then-len-came c = λ g limit frame of.
    whole g limit c.args.state.now c.args.came.now frame (c.in-Some-start_of.names, to_z w32 (of_z w32 c.in-Some-start_of.correlation)) (search rules) (search rules) (search rules) (search rules) of

pub returns-then-is_login : goal.returns-then-is_login
returns-then-is_login c = λ g limit frame of.
    overlong g limit c.args.state.now c.args.came.now frame (c.in-Some-start_of.names, to_z w32 (of_z w32 c.in-Some-start_of.correlation)) (search rules) (search rules) (search rules) (search rules) (search rules) of

pub returns-else-is_login : goal.returns-else-is_login
returns-else-is_login c = λ g limit frame of.
    unreadable g limit c.args.state.now c.args.came.now frame (c.in-Some-start_of.names, to_z w32 (of_z w32 c.in-Some-start_of.correlation)) (search rules) (search rules) (search rules) (search rules) (search rules) of
