use Rattle.linear_theory.proofs.Columns.{chosen_solution, chosen_solution_unique, free_column}
use Rattle.linear_theory.proofs.equations_have_one_chosen_solution.Goals as goal

pub returns : goal.returns
returns c size mul field =
    record {
      exists = λ n rows r rhs y b h. chosen_solution size mul field n rows r rhs y b h;
      no_other = λ n rows r rhs x y b lx ly hx hy fx fy. chosen_solution_unique size mul field n rows r rhs x y b lx ly hx hy fx fy;
      free_columns = λ rows r j b. free_column size mul field rows r j b;
    }
